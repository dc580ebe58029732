-- "Training: a row lacking a mapped id for a continuous dimension is dropped; if such a dimension consumed no id, all rows are." Definitions only.
use Rattle.refusal.specs.declared.Refusal.{Refusal}
use Rattle.refusal.specs.declared.Refusal.TheVariants.{Slot}
use Rattle.distribution.specs.declared.Distribution.{Distribution}
use Rattle.distribution.specs.declared.ParamValue.{ParamValue}
use Rattle.std.specs.Prelude.{ℕ, ◌*◌, ◌/◌, ◌%◌, Bool, List, ltb, length, get_or, Float, Option, Some, None, Result, Ok, Err}
use Rattle.std.specs.Result.{result_and}
use Rattle.std.specs.Float.{binary64}
use Rattle.std.specs.Float.Ieee.{of_bits}
use Rattle.arith.specs.Lists.{every, list_of, padded, places_of}
use Rattle.arith.specs.Outcome.{value_of}
use Rattle.encoding.specs.Encode.{to_internal_of}
use Rattle.scaling.specs.Scaling.{to_normalized_of}
use Rattle.dimensions.specs.declared.DimensionInfo.{DimensionInfo}
use Rattle.history.specs.declared.Training.{Training}
use Rattle.dimensions.specs.Dimensions.{dimension_at, columns_of}
use Rattle.param_mapping.specs.Mapping.{mapped_of, asked_of}
use Rattle.history_rows.specs.Rows.{row_at, slot_at, objective_of, row_count, recent_of}
use Rattle.slots.specs.Slot.{taken_word}
use Rattle.history_rows.specs.Slots.{slot_with}
use Rattle.slots.specs.Slot.{value_read}
use Rattle.slots.specs.Slot.{slot_read}

-- the place of a row's slot for a dimension of that id, or n; a dimension without an id has none
abbrev pub mapped_place : ℕ → List ℕ → Option ℕ → ℕ
mapped_place n row (Some id) = slot_with n row id
mapped_place n row None = n

-- the row has a slot for it
unfoldable pub covers_of : ℕ → List ℕ → Option ℕ → Bool
unfolding slot_with
covers_of n row id = ltb (mapped_place n row id) n

-- the row has one for each of these dimensions
unfoldable pub trains_of : ℕ → List (Option ℕ) → List ℕ → List ℕ → Bool
unfolding covers_of
trains_of n mapping columns row = every (length columns) (λ c. covers_of n row (get_or mapping (get_or columns c 0) None))

-- a value under a distribution; a slot of which none is read is refused
abbrev pub internal_of : Option ParamValue → Distribution → Result Float Refusal
internal_of (Some v) d = to_internal_of v d
internal_of None d = Err Slot

-- a slot's value under a dimension: `to_internal`, then scaled by the dimension's bounds
unfoldable pub entry_of : DimensionInfo → List ℕ → Float
unfolding slot_read
entry_of d v = to_normalized_of (value_of (internal_of (value_read (slot_read v) (taken_word v)) d.distribution)) d.lo d.hi

-- a row's value for dimension j
unfoldable pub column_of : ℕ → List DimensionInfo → List (Option ℕ) → List ℕ → ℕ → Float
unfolding slot_with entry_of
column_of n dims mapping row j = entry_of (dimension_at dims j) (slot_at row (mapped_place n row (get_or mapping j None)))

-- the rows that train
unfoldable pub kept_of : ℕ → List (Option ℕ) → List ℕ → List ℕ → List ℕ
unfolding row_count trains_of
kept_of n mapping columns r = places_of (row_count n r) (λ i. trains_of n mapping columns (row_at n r i))

-- their values, row after row, and their objectives
unfoldable pub x_of : ℕ → List DimensionInfo → List (Option ℕ) → List ℕ → List ℕ → List ℕ → List Float
unfolding column_of
x_of n dims mapping columns r kept =
    list_of (λ p. column_of n dims mapping (row_at n r (get_or kept (p / length columns) 0)) (get_or columns (p % length columns) 0)) (length kept * length columns)

unfoldable pub y_of : ℕ → List ℕ → List ℕ → List Float
y_of n r kept = list_of (λ c. of_bits binary64 (objective_of (row_at n r (get_or kept c 0)))) (length kept)

-- of the recent rows r
abbrev pub built_of : ℕ → List DimensionInfo → List (Option ℕ) → List ℕ → List ℕ → List ℕ → Training
built_of n dims mapping columns r kept =
    record { n = length kept; d = length columns; x = padded 2000 (x_of n dims mapping columns r kept); y = padded 100 (y_of n r kept) }

unfoldable pub recent_training : ℕ → List DimensionInfo → ℕ → List ℕ → Training
unfolding mapped_of columns_of kept_of x_of y_of
recent_training n dims k r =
    let mapping = mapped_of n dims k (row_at n r 0) in
    let columns = columns_of dims k in
    built_of n dims mapping columns r (kept_of n mapping columns r)

unfoldable pub training_of : ℕ → List DimensionInfo → ℕ → List ℕ → Result Training Refusal
unfolding asked_of recent_of recent_training
training_of n dims k h = result_and (asked_of n dims k h) (Ok (recent_training n dims k (recent_of n h)))
