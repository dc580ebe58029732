-- The rows that train: each is one of the rows and has a slot for each column. Assumes nothing.
use Rattle.std.specs.Prelude.{Option, None}
use mathlib.Core.Bool.{Bool}
use mathlib.Core.List.{List}
use Prim.Native.Nat.{ℕ, zero, suc, ◌+◌, ◌*◌, ◌/◌, ◌%◌, ◌≤◌, ◌<◌}
use native.Mathlib.Nat.{div-lt_iff_lt-mul, mod-lt, zero-lt-suc}
use native.Mathlib.Omega.{arith}
use mathlib.Core.Path.{◌≡◌}
use lib.Dec.{T, ltb→lt}
use lib.ListN.{length, get_or}
use Rattle.arith.specs.Lists.{places_of}
use Rattle.arith.proofs.Lists.{every-each, places-at, row-end}
use Rattle.history.specs.Cells.{Cells}
use Rattle.history_rows.specs.Rows.{width_of, row_count, row_at}
use Rattle.history.specs.Training.{mapped_place, covers_of, trains_of, kept_of}

-- place p of a table of d columns is in row p / d, column p % d
pub cell : (p rows d : ℕ) → p < rows * d → (p / d < rows) × (p % d < d)
cell p rows zero l = absurd (omega arith)
cell p rows (suc d) l = ((div-lt_iff_lt-mul (zero-lt-suc d)).1 l, mod-lt p (zero-lt-suc d))

module _ (n : ℕ) (mapping : List (Option ℕ)) (columns r : List ℕ) where
  abbrev kept : ℕ → ℕ
  kept c = get_or (kept_of n mapping columns r) c 0

  pub kept_row : (c : ℕ) → c < length (kept_of n mapping columns r) → kept c < row_count n r
  unfolding kept_of
  kept_row c l = (places-at (row_count n r) (λ i. trains_of n mapping columns (row_at n r i)) c l).0

  pub kept-covers : (c : ℕ) → c < length (kept_of n mapping columns r)
      → (j : ℕ) → j < length columns → T (covers_of n (row_at n r (kept c)) (get_or mapping (get_or columns j 0) None))
  unfolding kept_of trains_of
  kept-covers c l j q =
      every-each (length columns) (λ j. covers_of n (row_at n r (kept c)) (get_or mapping (get_or columns j 0) None)) (places-at (row_count n r) (λ i. trains_of n mapping columns (row_at n r i)) c l).1 j q

-- a row that covers a dimension has a slot for it
covered-slot : (n : ℕ) (row : List ℕ) (m : Option ℕ) → T (covers_of n row m) → mapped_place n row m < n
unfolding covers_of
covered-slot n row m t = ltb→lt (mapped_place n row m) n t

-- place p of the table is of one of the dimensions, for which its row has a slot
module _ {n m : ℕ} {mapping : List (Option ℕ)} {columns r kept : List ℕ} {p : ℕ} (cells : Cells n m mapping columns r kept) (l : p < length kept * length columns) where
  place : (p / length columns < length kept) × (p % length columns < length columns)
  place = cell p (length kept) (length columns) l

  pub cell-small : get_or columns (p % length columns) 0 < 20
  cell-small = cells.column (p % length columns) place.1

  pub cell-found : mapped_place n (row_at n r (get_or kept (p / length columns) 0)) (get_or mapping (get_or columns (p % length columns) 0) None) < n
  cell-found = covered-slot n _ _ (cells.covered (p / length columns) place.0 (p % length columns) place.1)

  -- and that row lies within the words
  pub cell-inside : length r ≡ m * width_of n → get_or kept (p / length columns) 0 * width_of n + width_of n ≤ length r
  cell-inside e = let s = row-end (get_or kept (p / length columns) 0) m (width_of n) (cells.row (p / length columns) place.0) in omega arith

-- the rows of m that train
pub train-cells : (n m : ℕ) (mapping : List (Option ℕ)) (columns r : List ℕ) → ((c : ℕ) → c < length columns → get_or columns c 0 < 20)
    → Cells n m mapping columns r (places_of m (λ i. trains_of n mapping columns (row_at n r i)))
train-cells n m mapping columns r h =
    record {
      row = λ c l. (places-at m test c l).0;
      column = h;
      covered = λ c l j q. every-each (length columns) (λ j. covers_of n (row_at n r (get_or (places_of m test) c 0)) (get_or mapping (get_or columns j 0) None)) (unfold trains_of in (places-at m test c l).1) j q;
    }
  where
    test : ℕ → Bool
    test i = trains_of n mapping columns (row_at n r i)
