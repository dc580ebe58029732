-- The unknowns side by side, from the last row: each lane is the plain one's. Assumes nothing.
use mathlib.Core.Path.{◌≡◌, refl, sym, ap, ◌∙◌}
use mathlib.Core.Logic.{inl, inr}
use mathlib.Core.List.{List, []}
use Prim.Native.Nat.{ℕ, zero, suc, ◌+◌, ◌-◌, ◌≤◌, ◌<◌}
use native.Mathlib.Nat.{eq-or-lt_of_le}
use native.Mathlib.Omega.{arith}
use lib.ListN.{length, get_or, set, length-set}
use lib.Seq.{ext_get_or, get_or-set_same, get_or-set_other}
use lib.Ieee.{Float, nan, binary64, div}
use Rattle.arith.proofs.Lists.{grown-at, grown-length}
use Rattle.factor.specs.Triangle.{entry, less_of}
use Rattle.factor.specs.Solve.{backward_of}
use Rattle.factor.proofs.Triangle.{less-same}
use Rattle.lanes.specs.Rows.{cell, eight_of, lane_of, lanes_of, rows_of}
use Rattle.lanes.proofs.Rows.{eight-same, lanes_at, row_at, row-past, rows-length}

-- the last m unknowns end every longer list of them
pub back_read : (l z : List Float) (n d m t k : ℕ) → t ≡ d + m → get_or (backward_of l z n t) (d + k) nan ≡ get_or (backward_of l z n m) k nan
unfolding backward_of
back_read l z n zero m t k e = let a : t ≡ m = omega arith in let b : 0 + k ≡ k = omega arith in rw (a, b)
back_read l z n (suc d) m t k e =
    let a : t ≡ suc (d + m) = omega arith in
    let b : suc d + k ≡ suc (d + k) = omega arith in
    rw (a, b) (back_read l z n d m (d + m) k refl)

module _ (l : List Float) (z : List (List Float)) (n : ℕ) where
  abbrev pub unknowns : ℕ → List Float
  unknowns p = backward_of l (lane_of z n p) n n

  -- x has the last m of the n rows, and zeros past them
  abbrev pub Known : ℕ → List (List Float) → Type 0
  Known m x = (length x ≡ 100) × ((i : ℕ) → i < 100 → n ≤ i + m → get_or x i [] ≡ get_or (rows_of (lanes_of unknowns n)) i [])

  pub known-none : (m : ℕ) → m ≡ 0 → (x : List (List Float)) → x ≡ rows_of [] → Known m x
  known-none m o x e = (rw e (refl), λ i h g. rw e (row-past [] i (omega arith) h ∙ sym (row-past (lanes_of unknowns n) i (rw (grown-length (λ xs j. eight_of (λ p. get_or (unknowns p) j nan)) n) (omega arith)) h)))

  module _ (m i : ℕ) (s : i + suc m ≡ n) (top : n ≤ 100) (x : List (List Float)) (k : Known m x) where
    -- row i, from the rows behind it
    known-row : eight_of (λ p. div binary64 (less_of m (λ r. entry l (i + 1 + r) i) (λ r. cell x (i + 1 + r) p) (cell z i p)) (entry l i i)) ≡ eight_of (λ p. get_or (unknowns p) i nan)
    unfolding backward_of
    known-row = eight-same _ _ one
      where
        one : (p : ℕ) → p < 8 → div binary64 (less_of m (λ r. entry l (i + 1 + r) i) (λ r. cell x (i + 1 + r) p) (cell z i p)) (entry l i i) ≡ get_or (unknowns p) i nan
        one p g =
            let a : n - suc m ≡ i = omega arith in
            let b : i + 0 ≡ i = omega arith in
            let c : n ≡ i + 1 + m = omega arith in
            let lane = lane_of z n p in
            let behind : (r : ℕ) → r < m → cell x (i + 1 + r) p ≡ get_or (backward_of l lane n m) r nan =
            (λ r q. ap (λ (y : List Float). get_or y p nan) (k.1 (i + 1 + r) (omega arith) (omega arith)) ∙ lanes_at unknowns n (i + 1 + r) p (omega arith) g ∙ back_read l lane n (i + 1) m n r c) in
            let last : get_or (backward_of l lane n (suc m)) 0 nan ≡ div binary64 (less_of m (λ r. entry l (i + 1 + r) i) (λ r. get_or (backward_of l lane n m) r nan) (get_or lane i nan)) (entry l i i) = rw a in
            rw (sym (grown-at (λ xs j. cell z j p) n i (omega arith)))
            (ap (λ (t : Float). div binary64 t (entry l i i)) (less-same m (λ r. entry l (i + 1 + r) i) _ (λ r. entry l (i + 1 + r) i) _ (get_or lane i nan) (λ r q. refl) behind)
            ∙ sym last
            ∙ sym (back_read l lane n i (suc m) n 0 (sym s))
            ∙ ap (λ (t : ℕ). get_or (unknowns p) t nan) b)

    pub known_more : (r : List Float) → r ≡ eight_of (λ p. div binary64 (less_of m (λ r. entry l (i + 1 + r) i) (λ r. cell x (i + 1 + r) p) (cell z i p)) (entry l i i)) → Known (suc m) (set x i r)
    known_more r e = (
      length-set x i r ∙ k.0,
      λ j h g. elim (eq-or-lt_of_le (let q : i ≤ j = omega arith in q)) [
        | inl q ↦ rw (sym q) (get_or-set_same x i r [] (omega arith) ∙ e ∙ known-row ∙ sym (row_at (λ t. eight_of (λ p. get_or (unknowns p) t nan)) n i (omega arith)))
        | inr q ↦ get_or-set_other x i j r [] (λ o. omega arith) ∙ k.1 j h (omega arith)
      ],
    )

  pub known-all : (m : ℕ) → m ≡ n → n ≤ 100 → (x : List (List Float)) → Known m x → x ≡ rows_of (lanes_of unknowns n)
  known-all m e top x k = ext_get_or [] x (rows_of (lanes_of unknowns n)) (k.0 ∙ sym (rows-length _ n top)) (λ i h. k.1 i (omega arith) (omega arith))
