-- Training data that are not refused have at most 100 rows and 20 columns, and their arrays are full. Assumes nothing.
use Rattle.std.specs.Prelude.{Option, Ok}
use Prim.Native.Nat.{ℕ, ◌/◌, ◌%◌, ◌*◌, ◌≤◌}
use mathlib.Core.Path.{◌≡◌, sym, subst}
use mathlib.Core.List.{List}
use native.Mathlib.Nat.{le_trans, mul-le-mul}
use lib.ListN.{length, get_or}
use lib.Ieee.{binary64, of_bits}
use Rattle.arith.proofs.Lists.{grown-length, padded-length, places-length}
use Rattle.dimensions.specs.declared.DimensionInfo.{DimensionInfo}
use Rattle.history.specs.declared.Training.{Training}
use Rattle.history.specs.Counts.{Counts}
use Rattle.dimensions.specs.Dimensions.{columns_of}
use Rattle.param_mapping.specs.Mapping.{mapped_of}
use Rattle.history_rows.specs.Rows.{row_count, recent_of, row_at, objective_of}
use Rattle.history.specs.Training.{trains_of, column_of, kept_of, x_of, y_of, recent_training, training_of}
use Rattle.history.proofs.FromArray.{training-accepted}
use Rattle.param_mapping.proofs.Opened.{opened}
use Rattle.history.proofs.PlaceList.{columns-few}
use Rattle.history_rows.proofs.Recent.{recent-few}

kept-few : (n m : ℕ) (mapping : List (Option ℕ)) (columns r : List ℕ) → row_count n r ≤ m → length (kept_of n mapping columns r) ≤ m
unfolding kept_of
kept-few n m mapping columns r h = le_trans (places-length (row_count n r) (λ i. trains_of n mapping columns (row_at n r i))) h

x-length : (n : ℕ) (dims : List DimensionInfo) (mapping : List (Option ℕ)) (columns r kept : List ℕ) → length (x_of n dims mapping columns r kept) ≡ length kept * length columns
unfolding x_of
x-length n dims mapping columns r kept = grown-length (λ xs p. column_of n dims mapping (row_at n r (get_or kept (p / length columns) 0)) (get_or columns (p % length columns) 0)) (length kept * length columns)

y-length : (n : ℕ) (r kept : List ℕ) → length (y_of n r kept) ≡ length kept
unfolding y_of
y-length n r kept = grown-length (λ xs c. of_bits binary64 (objective_of (row_at n r (get_or kept c 0)))) (length kept)

recent-counts : (n : ℕ) (dims : List DimensionInfo) (k : ℕ) (r : List ℕ) → k ≤ 20 → row_count n r ≤ 100 → Counts (recent_training n dims k r)
unfolding recent_training
recent-counts n dims k r h m =
    let mapping = mapped_of n dims k (row_at n r 0) in
    let columns = columns_of dims k in
    let kept = kept_of n mapping columns r in
    let p : length kept ≤ 100 = kept-few n 100 mapping columns r m in
    let q : length columns ≤ 20 = le_trans (columns-few dims k) h in
    record {
      rows = p;
      columns = q;
      x = padded-length 2000 (x_of n dims mapping columns r kept) (rw (x-length n dims mapping columns r kept) (mul-le-mul p q));
      y = padded-length 100 (y_of n r kept) (rw (y-length n r kept) p);
    }

pub training-counts : (n : ℕ) (dims : List DimensionInfo) (k : ℕ) (h : List ℕ) (t : Training) → training_of n dims k h ≡ Ok t → Counts t
training-counts n dims k h t e =
    let a = training-accepted n dims k h t e in
    let o = opened n dims k h a.0 in
    subst Counts (sym a.1) (recent-counts n dims k (recent_of n h) o.1 (recent-few n h o.2))
