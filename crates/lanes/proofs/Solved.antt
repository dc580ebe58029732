-- Forward, then backward: each lane is the plain solution. Assumes nothing.
use mathlib.Core.Path.{◌≡◌, sym, ◌∙◌}
use mathlib.Core.List.{List}
use Prim.Native.Nat.{ℕ, ◌≤◌, ◌<◌}
use native.Mathlib.Omega.{arith}
use lib.ListN.{length, get_or}
use lib.Seq.{ext_get_or}
use lib.Ieee.{Float, nan}
use Rattle.arith.specs.Lists.{list_of}
use Rattle.arith.proofs.Lists.{grown-at, grown-length, list_same, padded-at}
use Rattle.factor.specs.Solve.{forward_at, forward_of, backward_of, solution_of}
use Rattle.factor.proofs.Back.{back-length, solution-found}
use Rattle.lanes.specs.Rows.{lane_of, lanes_of, rows_of}
use Rattle.lanes.proofs.Rows.{eight-same, lanes_at}
use Rattle.lanes.specs.Solving.{solutions_of}

-- a list by its elements
pub list-again : (xs : List Float) (n : ℕ) → length xs ≡ n → list_of (λ i. get_or xs i nan) n ≡ xs
list-again xs n e =
    let f : length (list_of (λ i. get_or xs i nan) n) ≡ n = grown-length (λ ys i. get_or xs i nan) n in
    ext_get_or nan _ xs (f ∙ sym e) (λ i h. grown-at (λ ys i. get_or xs i nan) n i (omega arith))

-- lane p of eight lists
pub lane-of-lanes : (f : ℕ → List Float) (n p : ℕ) → p < 8 → length (f p) ≡ n → lane_of (rows_of (lanes_of f n)) n p ≡ f p
lane-of-lanes f n p g e = list_same _ _ n (λ i h. lanes_at f n i p h g) ∙ list-again (f p) n e

module _ (l : List Float) (b : List (List Float)) (n : ℕ) (top : n ≤ 100) where
  abbrev first : ℕ → List Float
  first p = forward_of l (lane_of b 100 p) n

  pub solved-lanes : lanes_of (λ p. backward_of l (lane_of (rows_of (lanes_of first n)) n p) n n) n ≡ lanes_of (λ p. solution_of l (lane_of b 100 p) n) n
  solved-lanes = list_same _ _ n (λ i h. eight-same _ _ (one i h))
    where
      one : (i : ℕ) → i < n → (p : ℕ) → p < 8 → get_or (backward_of l (lane_of (rows_of (lanes_of first n)) n p) n n) i nan ≡ get_or (solution_of l (lane_of b 100 p) n) i nan
      one i h p g =
          rw (lane-of-lanes first n p g (grown-length (forward_at l (lane_of b 100 p)) n), solution-found l (lane_of b 100 p) n top)
          (sym (padded-at 100 (backward_of l (first p) n n) i (rw (back-length l (first p) n n) h)))

  -- that is the answer
  pub answered : rows_of (lanes_of (λ p. backward_of l (lane_of (rows_of (lanes_of first n)) n p) n n) n) ≡ solutions_of l b n
  answered = rw solved-lanes
