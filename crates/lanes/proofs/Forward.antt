-- The forward solutions side by side: each lane is the plain one's. Assumes nothing.
use mathlib.Core.Path.{◌≡◌, refl, sym, ap, ◌∙◌}
use mathlib.Core.List.{List}
use Prim.Native.Nat.{ℕ, ◌≤◌, ◌<◌}
use native.Mathlib.Omega.{arith}
use lib.ListN.{get_or}
use lib.Ieee.{Float, nan, binary64, div}
use Rattle.arith.proofs.Lists.{grown-at}
use Rattle.factor.specs.Triangle.{entry, less_of}
use Rattle.factor.specs.Solve.{forward_at, forward_of}
use Rattle.factor.proofs.Triangle.{less-same}
use Rattle.lanes.specs.Rows.{cell, eight_of, lane_of, lanes_of, rows_of}
use Rattle.lanes.proofs.Rows.{eight-same, lanes_at}

module _ (l : List Float) (b : List (List Float)) (n i : ℕ) (h : i < n) (m : n ≤ 100) where
  abbrev solution : ℕ → List Float
  solution p = forward_of l (lane_of b 100 p) n

  -- row i, from the rows before it
  pub forward-row : (z : List (List Float)) → z ≡ rows_of (lanes_of (λ p. forward_of l (lane_of b 100 p) n) i)
      → eight_of (λ p. div binary64 (less_of i (entry l i) (λ k. cell z k p) (cell b i p)) (entry l i i)) ≡ eight_of (λ p. get_or (forward_of l (lane_of b 100 p) n) i nan)
  forward-row z e = rw e (eight-same _ _ one)
    where
      one : (p : ℕ) → p < 8 → div binary64 (less_of i (entry l i) (λ k. cell (rows_of (lanes_of solution i)) k p) (cell b i p)) (entry l i i) ≡ get_or (solution p) i nan
      one p g =
          let f = forward_at l (lane_of b 100 p) in
          let before : (k : ℕ) → k < i → cell (rows_of (lanes_of solution i)) k p ≡ get_or (forward_of l (lane_of b 100 p) i) k nan =
          (λ k q. lanes_at solution i k p q g ∙ grown-at f n k (omega arith) ∙ sym (grown-at f i k q)) in
          rw (sym (grown-at (λ xs j. cell b j p) 100 i (omega arith)))
          (ap (λ (s : Float). div binary64 s (entry l i i)) (less-same i (entry l i) _ (entry l i) _ (get_or (lane_of b 100 p) i nan) (λ k q. refl) before) ∙ sym (grown-at f n i h))
