-- Rows of eight, and arrays of rows. Assumes nothing.
use mathlib.Core.Path.{◌≡◌, ap, ◌∙◌}
use mathlib.Core.List.{List, []}
use Prim.Native.Nat.{ℕ, suc, ◌≤◌, ◌<◌}
use lib.ListN.{length, get_or, set}
use lib.Ieee.{Float, nan}
use Rattle.arith.specs.Lists.{list_of}
use Rattle.arith.proofs.Lists.{grown-at, grown-length, grown-read, grown-filled-set, filled_at, filled-length, list_same, filled-past}
use Rattle.lanes.specs.Rows.{cell, eight_of, lanes_of, rows_of, zero_row}

-- lane p of a row
pub eight-at : (f : ℕ → Float) {r : List Float} → r ≡ eight_of f → (p : ℕ) → p < 8 → get_or r p nan ≡ f p
eight-at f e p h = ap (λ (x : List Float). get_or x p nan) e ∙ grown-at (λ xs i. f i) 8 p h

-- rows of equal lanes
pub eight-same : (f g : ℕ → Float) → ((p : ℕ) → p < 8 → f p ≡ g p) → eight_of f ≡ eight_of g
eight-same f g h = list_same f g 8 h

-- row i of an array of rows
pub row_at : (f : ℕ → List Float) (n i : ℕ) → i < n → get_or (rows_of (list_of f n)) i [] ≡ f i
row_at f n i h = filled_at zero_row 100 (list_of f n) i [] (rw (grown-length (λ xs j. f j) n) h) ∙ grown-read (λ xs j. f j) n i [] h

-- row i of lane p
pub lanes_at : (f : ℕ → List Float) (n i p : ℕ) → i < n → p < 8 → cell (rows_of (lanes_of f n)) i p ≡ get_or (f p) i nan
lanes_at f n i p h g = eight-at (λ q. get_or (f q) i nan) (row_at (λ j. eight_of (λ q. get_or (f q) j nan)) n i h) p g

-- the next row is written behind those before it
pub row-set : (f : ℕ → List Float) (n : ℕ) (r : List Float) → n < 100 → r ≡ f n → set (rows_of (list_of f n)) n r ≡ rows_of (list_of f (suc n))
row-set f n r h e = rw e (grown-filled-set zero_row 100 (λ xs i. f i) n h)

-- past them stand zeros
pub row-past : (xs : List (List Float)) (i : ℕ) → length xs ≤ i → i < 100 → get_or (rows_of xs) i [] ≡ zero_row
row-past xs i h g = filled-past zero_row 100 xs i [] h g

pub rows-length : (f : ℕ → List Float) (n : ℕ) → n ≤ 100 → length (rows_of (list_of f n)) ≡ 100
rows-length f n h = filled-length zero_row 100 (list_of f n) (rw (grown-length (λ xs i. f i) n) h)
