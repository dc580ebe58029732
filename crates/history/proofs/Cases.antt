-- The training data at small histories, computed. Assumes nothing.
use Rattle.refusal.specs.declared.Refusal.{Refusal}
use Rattle.std.specs.Prelude.{Result, Ok, None}
use Rattle.history.specs.declared.Training.{Training}
use Prim.Native.Nat.{ℕ, ◌*◌}
use mathlib.Core.Path.{◌≡◌, refl}
use mathlib.Core.Bool.{true, false}
use mathlib.Core.List.{List, [], ◌∷◌, ◌++◌}
use lib.ListN.{take}
use lib.IntN.{pos}
use lib.Ieee.{Float, binary64, of_bits, of_int, to_bits, neg, le, lt, eq, sub, div, round}
use Rattle.history.specs.Places.{places_in, with_place}
use Rattle.arith.specs.Outcome.{made}
use Rattle.arith.specs.Lists.{every, grown, place_of, places_of}
use Rattle.encoding.specs.Bounds.{ends_of, bounds_of}
use Rattle.encoding.specs.Encode.{encoded_of, to_internal_of}
use Rattle.distribution.specs.declared.Distribution.{Distribution}
use Rattle.scaling.specs.Scaling.{to_normalized_of}
use Rattle.distribution.specs.Equal.{equal_of}
use Rattle.distribution.specs.Shape.{shape_of, float_step, int_shape, int_step, categorical_shape}
use Rattle.distribution.specs.Taken.{taken_of, value_of, float_taken, int_taken}
use Rattle.distribution_words.specs.Words.{read_of, checked_of}
use Rattle.dimensions.specs.declared.DimensionInfo.{DimensionInfo}
use Rattle.dimensions.specs.Dimensions.{dimension_of, dimension_ok, dimensions_ok, columns_of}
use Rattle.param_mapping.specs.Mapping.{insert_by_id, entries_of, first_entry, consumed_of, matches_of, mapped_of, asked_of}
use Rattle.history_rows.specs.Rows.{whole_rows, row_count, recent_count, recent_of}
use Rattle.history_rows.specs.Tests.{row_ok, slots_ok, ids_once, rows_agreeing, recent_tests, check_of}
use Rattle.slots.specs.Slot.{slot_read, slot_ok, agreeing}
use Rattle.history_rows.specs.Slots.{slot_with}
use Rattle.history.specs.Training.{covers_of, trains_of, entry_of, column_of, kept_of, x_of, y_of, recent_training, training_of}
use Rattle.history_rows.proofs.Samples.{row}
use Rattle.param_mapping.proofs.Samples.{int, choices, dims, first, second, third}

abbrev word : ℕ → Float
word w = of_bits binary64 w

-- an int from 3 to 3
abbrev point : Distribution
point = Distribution.Int (record { low = pos 3; high = pos 3; log_scale = false; step = None })

-- rows, columns, and the values and objectives of the rows
abbrev shown : Training → ℕ × ℕ × List Float × List Float
shown t = (t.n, t.d, take (t.n * t.d) t.x, take t.n t.y)

abbrev of : ℕ → List DimensionInfo → ℕ → List ℕ → Result (ℕ × ℕ × List Float × List Float) Refusal
of n ds k h = made shown (training_of n ds k h)

abbrev Trainings : Type 0
Trainings =
    -- the second row lacks id 9 and is dropped; its objective goes with it, and no value is shifted: 2/4, 1/4, then 4/4, 3/4
    (of 3 dims 3 (first ++ second ++ third) ≡ Ok (2, 2, word 0x3fe0000000000000 ∷ word 0x3fd0000000000000 ∷ word 0x3ff0000000000000 ∷ word 0x3fe8000000000000 ∷ [], word 0x3ff0000000000000 ∷ word 0x4000000000000000 ∷ []))
    -- a continuous dimension that consumed no id drops every row; a choice does not
    × (of 3 (dimension_of (int 4) ∷ dimension_of (int 8) ∷ []) 2 (first ++ third) ≡ Ok (0, 2, [], []))
    × (of 3 (dimension_of (int 4) ∷ dimension_of (choices 7) ∷ []) 2 first ≡ Ok (1, 1, word 0x3fe0000000000000 ∷ [], word 0x3ff0000000000000 ∷ []))
    -- a range of one point gives 0.5
    × (of 1 (dimension_of point ∷ []) 1 (row 0 (9 ∷ 2 ∷ 3 ∷ 3 ∷ 0 ∷ 0 ∷ 0 ∷ 3 ∷ [])) ≡ Ok (1, 1, word 0x3fe0000000000000 ∷ [], word 0x3ff0000000000000 ∷ []))

trainings : Trainings
unfolding training_of recent_training columns_of kept_of trains_of covers_of slot_with place_of places_of x_of y_of column_of entry_of to_internal_of encoded_of to_normalized_of sub div round mapped_of asked_of entries_of insert_by_id first_entry consumed_of matches_of dimension_ok dimensions_ok grown bounds_of ends_of check_of recent_tests whole_rows row_count recent_count recent_of row_ok slot_read slot_ok agreeing slots_ok ids_once rows_agreeing every equal_of shape_of int_shape int_step categorical_shape float_step taken_of value_of float_taken int_taken read_of checked_of of_bits of_int to_bits neg le lt eq
trainings = (refl, refl, refl, refl)

-- places in an array, with their count; one more where the test holds
abbrev Listed : Type 0
Listed =
    (take 3 (places_in (2 ∷ 5 ∷ [])).at ≡ 2 ∷ 5 ∷ 0 ∷ [])
    × ((places_in (2 ∷ 5 ∷ [])).count ≡ 2)
    × (with_place (2 ∷ 0 ∷ 0 ∷ []) 1 7 true ≡ record { count = 2; at = 2 ∷ 7 ∷ 0 ∷ [] })
    × (with_place (2 ∷ 0 ∷ 0 ∷ []) 1 7 false ≡ record { count = 1; at = 2 ∷ 0 ∷ 0 ∷ [] })

listed : Listed
listed = (refl, refl, refl, refl)
