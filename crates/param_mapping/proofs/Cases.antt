-- The mapping at small histories, computed. Assumes nothing.
use Rattle.refusal.specs.declared.Refusal.TheVariants.{OutOfDomain, BrokenRows}
use Rattle.std.specs.Prelude.{Some, None, Ok, Err}
use mathlib.Core.Path.{◌≡◌, refl}
use mathlib.Core.Bool.{true, false}
use mathlib.Core.List.{[], ◌∷◌, ◌++◌}
use lib.Ieee.{binary64, of_bits, of_int, to_bits, neg, le, lt, eq}
use Rattle.history_rows.proofs.Samples.{slot, absent}
use Rattle.param_mapping.specs.MappingParts.{better_of}
use Rattle.arith.specs.Lists.{every, grown, filled}
use Rattle.encoding.specs.Bounds.{ends_of, bounds_of}
use Rattle.distribution.specs.Equal.{equal_of}
use Rattle.distribution.specs.Shape.{shape_of, float_step, int_shape, int_step, categorical_shape}
use Rattle.distribution.specs.Taken.{taken_of, value_of, float_taken, int_taken}
use Rattle.distribution_words.specs.Words.{read_of, checked_of}
use Rattle.dimensions.specs.Dimensions.{dimension_of, dimension_ok, dimensions_ok}
use Rattle.param_mapping.specs.Mapping.{insert_by_id, entries_of, first_entry, consumed_of, matches_of, mapped_of, asked_of, mapping_of}
use Rattle.history_rows.specs.Rows.{whole_rows, row_count, recent_count, recent_of}
use Rattle.history_rows.specs.Tests.{row_ok, slots_ok, ids_once, rows_agreeing, recent_tests, check_of}
use Rattle.slots.specs.Slot.{slot_read, slot_ok, agreeing}
use Rattle.param_mapping.proofs.Samples.{int, dims, first, second}

abbrev Mappings : Type 0
Mappings =
    -- by id, each entry once, the choice too
    (mapping_of 3 dims 3 (first ++ second) ≡ Ok (filled None 20 (Some 4 ∷ Some 1 ∷ Some 9 ∷ [])))
    -- a third int of that range finds none, nor does one of another range
    × (mapping_of 3 (dimension_of (int 4) ∷ dimension_of (int 4) ∷ dimension_of (int 4) ∷ dimension_of (int 8) ∷ []) 4 first ≡ Ok (filled None 20 (Some 4 ∷ Some 9 ∷ None ∷ None ∷ [])))
    -- without a row nothing is found
    × (mapping_of 3 dims 3 [] ≡ Ok (filled None 20 []))
    -- bounds that are not the distribution's, and a history that is refused
    × ((mapping_of 3 (record { distribution = int 4; lo = of_bits binary64 0; hi = of_bits binary64 0 } ∷ []) 1 first) ≡ Err OutOfDomain)
    × ((mapping_of 3 dims 3 (7 ∷ first)) ≡ Err BrokenRows)

mappings : Mappings
unfolding mapping_of asked_of mapped_of entries_of insert_by_id first_entry consumed_of matches_of dimension_ok dimensions_ok grown bounds_of ends_of check_of recent_tests whole_rows row_count recent_count recent_of row_ok slot_read slot_ok agreeing slots_ok ids_once rows_agreeing every equal_of shape_of int_shape int_step categorical_shape float_step taken_of value_of float_taken int_taken read_of checked_of of_bits of_int to_bits neg le lt eq
mappings = (refl, refl, refl, refl, refl)

-- of two entries that fit the one of lesser id; an absent slot, and one that does not fit, leave the entry found so far
abbrev Better : Type 0
Better =
    (better_of (λ v. true) (slot 4 4 1) (Some 9) ≡ Some 4)
    × (better_of (λ v. true) (slot 9 4 1) (Some 4) ≡ Some 4)
    × (better_of (λ v. true) (slot 9 4 1) None ≡ Some 9)
    × (better_of (λ v. true) absent (Some 9) ≡ Some 9)
    × (better_of (λ v. false) (slot 4 4 1) (Some 9) ≡ Some 9)

better : Better
better = (refl, refl, refl, refl, refl)
