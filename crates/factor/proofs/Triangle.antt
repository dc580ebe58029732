-- The packed triangle: how long its rows are, where an entry stands, and the array that is filled by rows. Assumes nothing.
use mathlib.Core.Path.{◌≡◌, refl, sym, ap, ◌∙◌}
use mathlib.Core.Logic.{inl, inr}
use mathlib.Core.List.{List, [], ◌∷◌, ◌++◌, append-nil, append_assoc}
use Prim.Native.Nat.{ℕ, zero, suc, ◌+◌, ◌*◌, ◌/◌, ◌≤◌, ◌<◌}
use native.Mathlib.Nat.{eq-or-lt_of_le, le_of_suc-le-suc, add-mul-div_left, suc-mul, mul-suc}
use native.Mathlib.Numerals.{add-one}
use native.Mathlib.Omega.{arith}
use lib.ListN.{length, get_or, set, length-append, get_or-append}
use lib.Seq.{get_or-append-add}
use lib.Ieee.{Float, nan}
use Rattle.arith.specs.Lists.{grown, list_of, padded}
use Rattle.arith.proofs.Lists.{grown-length, grown-at, padded-at, padded-set}
use Rattle.factor.specs.Triangle.{at, entry, rows_of, less_of}

-- the first n rows have this many entries
abbrev pub size : ℕ → ℕ
size n = n * (n + 1) / 2

-- a row is one longer than the one before it
pub size-suc : (n : ℕ) → size (suc n) ≡ size n + suc n
size-suc n = ap (λ (k : ℕ). k / 2) twice ∙ add-mul-div_left (n * (n + 1)) (suc n) (omega arith)
  where
    twice : suc n * (suc n + 1) ≡ n * (n + 1) + 2 * suc n
    twice = rw (suc-mul, mul-suc, add-one) (omega arith)

-- fewer rows have fewer entries
pub size_mono : (m n : ℕ) → m ≤ n → size m ≤ size n
size_mono m zero h = let e : m ≡ 0 = omega arith in rw e (omega arith)
size_mono m (suc n) h = elim (eq-or-lt_of_le h) [ inl e ↦ rw e (omega arith) | inr l ↦ omega (arith, size-suc n, size_mono m n (le_of_suc-le-suc l)) ]

-- an entry of a row before row n stands before row n
pub at-below : (n r k : ℕ) → r < n → k ≤ r → at r k < size n
at-below n r k h g = omega (arith, size-suc r, size_mono (suc r) n h)

-- a hundred rows have room
pub at_room : (i k : ℕ) → i < 100 → k ≤ i → at i k < 5050
at_room i k h g = at-below 100 i k h g

-- an entry by its row's start
pub from_start : {p : ℕ} (i k : ℕ) → p ≡ at i 0 → p + k ≡ at i k
from_start i k e = omega arith

-- less_of looks at the places below n alone
pub less-same : (n : ℕ) (x y u v : ℕ → Float) (s : Float) → ((k : ℕ) → k < n → x k ≡ u k) → ((k : ℕ) → k < n → y k ≡ v k) → less_of n x y s ≡ less_of n u v s
unfolding less_of
less-same zero x y u v s p q = refl
less-same (suc n) x y u v s p q = rw (less-same n x y u v s (λ k h. p k (omega arith)) (λ k h. q k (omega arith)), p n (omega arith), q n (omega arith))

module _ (t : ℕ → ℕ → Float) where
  -- the first n rows, one after another, are as long as that
  pub rows-length : (n : ℕ) → length (rows_of t n) ≡ size n
  unfolding rows_of
  rows-length zero = refl
  rows-length (suc n) = length-append (rows_of t n) (list_of (t n) (suc n)) ∙ rw (rows-length n, grown-length (λ xs i. t n i) (suc n)) (sym (size-suc n))

  -- the rows before row i, and the first j entries of row i
  abbrev pub filled : ℕ → ℕ → List Float
  filled i j = rows_of t i ++ list_of (t i) j

  -- so the next place is row i, column j
  pub filled-length : (i j : ℕ) → length (filled i j) ≡ at i j
  filled-length i j = length-append (rows_of t i) (list_of (t i) j) ∙ rw (rows-length i, grown-length (λ xs k. t i k) j)

  -- an entry of row i, in the list
  filled-here : (i j k : ℕ) → k < j → get_or (filled i j) (at i k) nan ≡ t i k
  filled-here i j k h =
      rw (sym (rows-length i)) (get_or-append-add (rows_of t i) (list_of (t i) j) k nan ∙ grown-at (λ xs m. t i m) j k h)

  -- an entry of a row before it, in the list
  rows_at : (n r k : ℕ) → r < n → k ≤ r → get_or (rows_of t n) (at r k) nan ≡ t r k
  unfolding rows_of
  rows_at zero r k h g = absurd (no h)
    where
      no : r < 0 → ⊥
      no z = omega arith
  rows_at (suc n) r k h g =
      elim (eq-or-lt_of_le (le_of_suc-le-suc h)) [
        | inl e ↦ rw e (filled-here n (suc n) k (omega arith))
        | inr l ↦ get_or-append (rows_of t n) (list_of (t n) (suc n)) nan (at r k) (rw rows-length (at-below n r k l g)) ∙ rows_at n r k l g
      ]

  -- the same in the array: an entry of a row before row i
  pub entry-before : (i j r k : ℕ) → r < i → k ≤ r → entry (padded 5050 (filled i j)) r k ≡ t r k
  entry-before i j r k h g =
      let b : at r k < length (rows_of t i) = rw rows-length (at-below i r k h g) in
      padded-at 5050 (filled i j) (at r k) (rw filled-length (omega (arith, at-below i r k h g)))
      ∙ get_or-append (rows_of t i) (list_of (t i) j) nan (at r k) b
      ∙ rows_at i r k h g

  -- an entry of row i
  pub entry_here : (i j k : ℕ) → k < j → entry (padded 5050 (filled i j)) i k ≡ t i k
  entry_here i j k h = padded-at 5050 (filled i j) (at i k) (rw filled-length (omega arith)) ∙ filled-here i j k h

  -- an entry of either
  pub entry-made : (i j r k : ℕ) → r ≤ i → k < j → k ≤ r → entry (padded 5050 (filled i j)) r k ≡ t r k
  entry-made i j r k h g f = elim (eq-or-lt_of_le h) [ inl e ↦ rw e (entry_here i j k g) | inr l ↦ entry-before i j r k l f ]

  -- the next entry is written behind them
  pub filled-set : (i j : ℕ) → i < 100 → j ≤ i → set (padded 5050 (filled i j)) (at i j) (t i j) ≡ padded 5050 (filled i (suc j))
  unfolding grown
  filled-set i j h g =
      rw (sym (filled-length i j), padded-set 5050 (filled i j) (t i j) (rw filled-length (at_room i j h g)), append_assoc (rows_of t i) (list_of (t i) j) (t i j ∷ []))

  -- a row with no entry yet
  pub filled_none : (i : ℕ) → filled i 0 ≡ rows_of t i
  unfolding grown
  filled_none i = append-nil (rows_of t i)

  -- a whole row
  pub filled-all : (i : ℕ) → filled i (suc i) ≡ rows_of t (suc i)
  unfolding rows_of
  filled-all i = refl
