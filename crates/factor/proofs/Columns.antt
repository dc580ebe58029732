-- The factor by columns is the factor by rows: an entry does not change once its column is made. Assumes nothing.
use mathlib.Core.Path.{◌≡◌, refl, sym, ap, ◌∙◌}
use mathlib.Core.Logic.{inl, inr}
use mathlib.Core.Bool.{false}
use mathlib.Core.List.{List}
use Prim.Native.Nat.{ℕ, zero, suc, ◌≤◌, ◌<◌}
use native.Mathlib.Nat.{eq-or-lt_of_le, le_of_suc-le-suc}
use native.Mathlib.Omega.{arith}
use borrow.Author.Tests.{eq-eqb, ne_eqb}
use lib.Dec.{eqb}
use lib.ListN.{get_or, set}
use lib.Ieee.{Float, nan, binary64, div}
use Rattle.arith.specs.Lists.{padded}
use Rattle.root.specs.Sqrt.{sqrt_of}
use Rattle.factor.specs.Triangle.{at, entry, rows_of, less_of}
use Rattle.factor.specs.Cholesky.{rest_of, element_of, columns_of, factor_of}
use Rattle.factor.proofs.Triangle.{less-same, filled, entry-before, entry-made, filled-set, filled-all}

module _ (a : ℕ → ℕ → Float) where
  -- one column more leaves the others as they are
  older : (c i k : ℕ) → eqb k c ≡ false → columns_of a (suc c) i k ≡ columns_of a c i k
  unfolding columns_of
  older c i k e = rw e

  -- an entry stays as its own column makes it
  columns-stable : (c i k : ℕ) → k < c → columns_of a c i k ≡ factor_of a i k
  columns-stable zero i k h = absurd (no h)
    where
      no : k < 0 → ⊥
      no z = omega arith
  columns-stable (suc c) i k h =
      elim (eq-or-lt_of_le (le_of_suc-le-suc h)) [
        | inl e ↦ rw e
        | inr l ↦ older c i k (ne_eqb k c (λ e. omega arith)) ∙ columns-stable c i k l
      ]

  -- what is left of an entry, by the columns before it or by the factor
  pub rest_stable : (i j : ℕ) → rest_of a (columns_of a j) i j ≡ rest_of a (factor_of a) i j
  rest_stable i j = less-same j (columns_of a j i) (columns_of a j j) (factor_of a i) (factor_of a j) (a i j) (λ k h. columns-stable j i k h) (λ k h. columns-stable j j k h)

  -- an entry, by the columns before it
  factor-element : (i j : ℕ) → factor_of a i j ≡ element_of a (columns_of a j) i j
  unfolding columns_of
  factor-element i j = rw (eq-eqb j j refl)

  -- an entry on the diagonal
  pub factor-diagonal : (j : ℕ) → factor_of a j j ≡ sqrt_of (rest_of a (factor_of a) j j)
  factor-diagonal j = factor-element j j ∙ rw (eq-eqb j j refl, rest_stable j j)

  -- an entry below it
  pub factor-below : (i j : ℕ) → j < i → factor_of a i j ≡ div binary64 (rest_of a (factor_of a) i j) (factor_of a j j)
  factor-below i j h = factor-element i j ∙ rw (ne_eqb i j (λ e. omega arith), factor-diagonal j, rest_stable i j, rest_stable j j)

  -- the array that is filled up to row i, column j
  abbrev array : ℕ → ℕ → List Float
  array i j = padded 5050 (filled (factor_of a) i j)

  -- what is left of the next entry, by what is written
  pub rest-written : (i j : ℕ) → j ≤ i → less_of j (entry (array i j) i) (entry (array i j) j) (a i j) ≡ rest_of a (factor_of a) i j
  rest-written i j h =
      less-same j (entry (array i j) i) (entry (array i j) j) (factor_of a i) (factor_of a j) (a i j)
      (λ k g. entry-made (factor_of a) i j i k (omega arith) g (omega arith))
      (λ k g. entry-made (factor_of a) i j j k h g (omega arith))

  -- the next entry below the diagonal, by what is written
  pub written_below : (i j : ℕ) → j < i → div binary64 (less_of j (entry (array i j) i) (entry (array i j) j) (a i j)) (entry (array i j) j j) ≡ factor_of a i j
  written_below i j h = rw (rest-written i j (omega arith), entry-before (factor_of a) i j j j h (omega arith)) (sym (factor-below i j h))

  -- it is written, from what the code has read
  pub next-below : (i j p d : ℕ) (l : List Float) (e v : Float) → i < 100 → j < i → l ≡ array i j → p ≡ at i j → d ≡ at j j → e ≡ a i j → v ≡ less_of j (entry l i) (entry l j) e → set l p (div binary64 v (get_or l d nan)) ≡ array i (suc j)
  next-below i j p d l e v hi hj hl hp hd he hv = rw (hv, hl, hp, hd, he) (ap (set (array i j) (at i j)) (written_below i j hj) ∙ filled-set (factor_of a) i j hi (omega arith))

  -- the end of row i, from what the code has read
  module _ (i : ℕ) (l : List Float) (e v : Float) (hl : l ≡ array i i) (he : e ≡ a i i) (hv : v ≡ less_of i (entry l i) (entry l i) e) where
    -- what is left of the entry on the diagonal
    left_over : v ≡ rest_of a (factor_of a) i i
    left_over = hv ∙ rw (hl, he) (rest-written i i (omega arith))

    -- it is the pivot
    pub next-pivot : v ≡ rest_of a (columns_of a i) i i
    next-pivot = left_over ∙ sym (rest_stable i i)

    -- its root is written, and ends the row
    pub next-diagonal : (d : ℕ) → i < 100 → d ≡ at i i → set l d (sqrt_of v) ≡ padded 5050 (rows_of (factor_of a) (suc i))
    next-diagonal d hi hd =
        rw (hl, hd) (ap (set (array i i) (at i i)) (ap sqrt_of left_over ∙ sym (factor-diagonal i)) ∙ filled-set (factor_of a) i i hi (omega arith) ∙ ap (padded 5050) (filled-all (factor_of a) i))
