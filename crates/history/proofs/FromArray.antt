-- Training data from the mapping in its array are those from the mapping itself: past the dimensions the array is not read. Then what the answers of training data say. Assumes nothing.
use Rattle.refusal.specs.declared.Refusal.{Refusal}
use Rattle.refusal.specs.Numbers.{number_of}
use Rattle.std.specs.Prelude.{Option, None, Result, Ok, Err}
use Rattle.std.specs.Result.{result_and}
use Rattle.param_mapping.proofs.Opened.{and-ok, and-err}
use Rattle.history.specs.declared.Training.{Training}
use Prim.Native.Nat.{ℕ, ◌*◌, ◌/◌, ◌%◌, ◌<◌}
use mathlib.Core.Path.{◌≡◌, refl, sym, ap, ◌∙◌, subst}
use mathlib.Core.List.{List}
use lib.ListN.{length, get_or}
use lib.Ieee.{Float}
use Rattle.distribution.specs.Shape.{continuous_of}
use Rattle.arith.specs.Lists.{filled, padded, places_of}
use Rattle.arith.proofs.Lists.{every-same, places_same, places-at, list_same, filled_at}
use Rattle.dimensions.specs.declared.DimensionInfo.{DimensionInfo}
use Rattle.dimensions.specs.Dimensions.{dimension_at, columns_of}
use Rattle.param_mapping.specs.Mapping.{mapped_of, asked_of}
use Rattle.history_rows.specs.Rows.{row_count, row_at, slot_at, recent_of}
use Rattle.history.specs.Training.{mapped_place, covers_of, trains_of, entry_of, column_of, kept_of, x_of, y_of, built_of, recent_training, training_of}
use Rattle.history.proofs.KeptRows.{cell}
use Rattle.param_mapping.proofs.MappedList.{mapped-length}

-- a column is one of the dimensions
pub column-below : (dims : List DimensionInfo) (k c : ℕ) → c < length (columns_of dims k) → get_or (columns_of dims k) c 0 < k
unfolding columns_of
column-below dims k c l = (places-at k (λ j. continuous_of (dimension_at dims j).distribution) c l).0

module _ (n : ℕ) (dims : List DimensionInfo) (k : ℕ) (r : List ℕ) where
  abbrev mapping : List (Option ℕ)
  mapping = mapped_of n dims k (row_at n r 0)

  abbrev array : List (Option ℕ)
  array = filled None 20 mapping

  abbrev columns : List ℕ
  columns = columns_of dims k

  at_same : (c : ℕ) → c < length columns → get_or array (get_or columns c 0) None ≡ get_or mapping (get_or columns c 0) None
  at_same c l = filled_at None 20 mapping (get_or columns c 0) None (subst (λ (m : ℕ). get_or columns c 0 < m) (sym (mapped-length n dims k (row_at n r 0))) (column-below dims k c l))

  trains-same : (row : List ℕ) → trains_of n array columns row ≡ trains_of n mapping columns row
  unfolding trains_of
  trains-same row =
      every-same (length columns) (λ c. covers_of n row (get_or array (get_or columns c 0) None)) (λ c. covers_of n row (get_or mapping (get_or columns c 0) None)) (λ c l. ap (covers_of n row) (at_same c l))

  kept_same : (m : ℕ) → m ≡ row_count n r → places_of m (λ i. trains_of n array columns (row_at n r i)) ≡ kept_of n mapping columns r
  unfolding kept_of
  kept_same m e =
      places_same m (λ i. trains_of n array columns (row_at n r i)) (λ i. trains_of n mapping columns (row_at n r i)) (λ i l. trains-same (row_at n r i))
      ∙ ap (λ (j : ℕ). places_of j (λ i. trains_of n mapping columns (row_at n r i))) e

  column-same : (row : List ℕ) (c : ℕ) → c < length columns → column_of n dims array row (get_or columns c 0) ≡ column_of n dims mapping row (get_or columns c 0)
  unfolding column_of
  column-same row c l = ap (λ (m : Option ℕ). entry_of (dimension_at dims (get_or columns c 0)) (slot_at row (mapped_place n row m))) (at_same c l)

  x-same : (kept : List ℕ) → x_of n dims array columns r kept ≡ x_of n dims mapping columns r kept
  unfolding x_of
  x-same kept =
      let d = length columns in
      let row : ℕ → List ℕ = λ p. row_at n r (get_or kept (p / d) 0) in
      list_same (λ p. column_of n dims array (row p) (get_or columns (p % d) 0)) (λ p. column_of n dims mapping (row p) (get_or columns (p % d) 0)) (length kept * d) (λ p l. column-same (row p) (p % d) (cell p (length kept) d l).1)

  pub training-same : (m : ℕ) → m ≡ row_count n r → built_of n dims array columns r (places_of m (λ i. trains_of n array columns (row_at n r i))) ≡ recent_training n dims k r
  unfolding recent_training
  training-same m e =
      ap (built_of n dims array columns r) (kept_same m e)
      ∙ ap (λ (x : List Float). record { n = length (kept_of n mapping columns r); d = length columns; x = padded 2000 x; y = padded 100 (y_of n r (kept_of n mapping columns r)) }) (x-same (kept_of n mapping columns r))

-- what is not refused
pub training-is : (n : ℕ) (dims : List DimensionInfo) (k : ℕ) (h : List ℕ) → asked_of n dims k h ≡ Ok tt → training_of n dims k h ≡ Ok (recent_training n dims k (recent_of n h))
unfolding training_of
training-is n dims k h e = rw e

-- what the answers say
pub training-accepted : (n : ℕ) (dims : List DimensionInfo) (k : ℕ) (h : List ℕ) (t : Training) → training_of n dims k h ≡ Ok t
    → (asked_of n dims k h ≡ Ok tt) × (t ≡ recent_training n dims k (recent_of n h))
unfolding training_of
training-accepted n dims k h t e = and-ok (asked_of n dims k h) _ t e

pub training-refused : (n : ℕ) (dims : List DimensionInfo) (k : ℕ) (h : List ℕ) (r : Refusal) → training_of n dims k h ≡ Err r → asked_of n dims k h ≡ Err r
unfolding training_of
training-refused n dims k h r e = and-err (asked_of n dims k h) _ r e

-- the number is the call's
pub training-number : (n : ℕ) (dims : List DimensionInfo) (k : ℕ) (h : List ℕ) → number_of (training_of n dims k h) ≡ number_of (asked_of n dims k h)
unfolding training_of
training-number n dims k h = go (asked_of n dims k h)
  where
    go : (r : Result Unit Refusal) → number_of (result_and r (Ok (recent_training n dims k (recent_of n h)))) ≡ number_of r
    go (Ok u) = refl
    go (Err r) = refl
