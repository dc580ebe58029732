-- The tests at small histories, computed. Assumes nothing.
use mathlib.Core.Path.{◌≡◌, refl}
use mathlib.Core.Bool.{true, false}
use mathlib.Core.List.{[], ◌∷◌, ◌++◌}
use lib.ListN.{replicate}
use lib.Ieee.{of_bits, neg, le, lt, eq}
use Rattle.arith.specs.Lists.{every, place_of}
use Rattle.distribution.specs.Equal.{equal_of}
use Rattle.distribution.specs.Shape.{shape_of, float_step}
use Rattle.distribution.specs.Taken.{taken_of, value_of, float_taken, int_taken}
use Rattle.distribution_words.specs.Words.{read_of, checked_of}
use Rattle.history_rows.specs.First.{first_row_with, like_first, row_like_first}
use Rattle.history_rows.specs.Recent.{recent_part}
use Rattle.history_rows.specs.Slots.{slot_with, slot_place}
use Rattle.history_rows.specs.Rows.{whole_rows, row_count, recent_count, recent_of}
use Rattle.history_rows.specs.Tests.{row_ok, slots_ok, ids_once, rows_agreeing, recent_tests, check_of}
use Rattle.slots.specs.Slot.{slot_read, slot_ok, agreeing}
use Rattle.refusal.specs.declared.Refusal.TheVariants.{BrokenRows, Objective, Slot, RepeatedId, UnequalId, OutOfDomain}
use Rattle.std.specs.Prelude.{Ok, Err, Some, None}
use Rattle.history_rows.proofs.Samples.{slot, absent, row, rows}

abbrev Numbers : Type 0
Numbers =
    (check_of 1 [] ≡ Ok tt)
    × (check_of 1 (row 0 (slot 9 9 5) ++ row 3 absent) ≡ Ok tt)
    × (check_of 0 [] ≡ Err OutOfDomain)
    × (check_of 21 [] ≡ Err OutOfDomain)
    -- not whole rows
    × (check_of 1 (7 ∷ row 0 absent) ≡ Err BrokenRows)
    -- a bad state, before a bad slot of an earlier row
    × (check_of 1 (row 0 (9 ∷ replicate 7 0) ++ row 4 absent) ≡ Err Objective)
    -- an objective that is a NaN
    × (check_of 1 (7 ∷ 0 ∷ 0x7ff8000000000000 ∷ absent) ≡ Err Objective)
    -- an absent slot with an id, and a kind of 4
    × (check_of 1 (row 0 (9 ∷ replicate 7 0)) ≡ Err Slot)
    × (check_of 1 (row 0 (9 ∷ 4 ∷ replicate 6 0)) ≡ Err Slot)
    -- an id twice in a row; absent slots do not count
    × (check_of 2 (row 0 (slot 9 9 5 ++ slot 9 9 5)) ≡ Err RepeatedId)
    × (check_of 2 (row 0 (absent ++ absent)) ≡ Ok tt)
    -- an id with two unequal distributions; with equal ones
    × (check_of 1 (row 0 (slot 9 9 5) ++ row 0 (slot 9 8 5)) ≡ Err UnequalId)
    × (check_of 1 (row 0 (slot 9 9 5) ++ row 0 (slot 9 9 6)) ≡ Ok tt)

numbers : Numbers
unfolding check_of recent_tests whole_rows row_count recent_count recent_of row_ok slot_read slot_ok agreeing slots_ok ids_once rows_agreeing every equal_of shape_of float_step taken_of value_of float_taken int_taken read_of checked_of of_bits neg le lt eq
numbers = (refl, refl, refl, refl, refl, refl, refl, refl, refl, refl, refl, refl, refl)

-- two faults at once: the lower number is given, in whichever rows they are
abbrev Pairs : Type 0
Pairs =
    -- slots out of range before 3
    (check_of 0 (7 ∷ []) ≡ Err OutOfDomain)
    × (check_of 21 (7 ∷ []) ≡ Err OutOfDomain)
    -- 3 before a bad state, a bad slot, an id twice, unequal distributions
    × (check_of 1 (7 ∷ row 4 absent) ≡ Err BrokenRows)
    × (check_of 1 (row 0 (slot 9 9 10) ++ 7 ∷ []) ≡ Err BrokenRows)
    × (check_of 2 (row 0 (slot 9 9 5 ++ slot 9 9 5) ++ 7 ∷ []) ≡ Err BrokenRows)
    × (check_of 1 (row 0 (slot 9 9 5) ++ row 0 (slot 9 8 5) ++ 7 ∷ []) ≡ Err BrokenRows)
    -- 4 before an id twice, unequal distributions
    × (check_of 2 (row 0 (slot 9 9 5 ++ slot 9 9 5) ++ row 4 (absent ++ absent)) ≡ Err Objective)
    × (check_of 1 (row 0 (slot 9 9 5) ++ row 4 (slot 9 8 5)) ≡ Err Objective)
    -- 5 before an id twice, unequal distributions
    × (check_of 2 (row 0 (slot 9 9 5 ++ slot 9 9 5) ++ row 0 (absent ++ 9 ∷ replicate 7 0)) ≡ Err Slot)
    × (check_of 1 (row 0 (slot 9 9 5) ++ row 0 (slot 9 8 5) ++ row 0 (9 ∷ replicate 7 0)) ≡ Err Slot)
    -- 6 before unequal distributions, in earlier rows and in the same one
    × (check_of 2 (row 0 (slot 9 9 5 ++ absent) ++ row 0 (slot 9 8 5 ++ absent) ++ row 0 (slot 4 9 5 ++ slot 4 9 5)) ≡ Err RepeatedId)
    × (check_of 2 (row 0 (slot 9 9 5 ++ slot 9 8 5)) ≡ Err RepeatedId)

two_faults : Pairs
unfolding check_of recent_tests whole_rows row_count recent_count recent_of row_ok slot_read slot_ok agreeing slots_ok ids_once rows_agreeing every equal_of shape_of float_step taken_of value_of float_taken int_taken read_of checked_of of_bits neg le lt eq
two_faults = (refl, refl, refl, refl, refl, refl, refl, refl, refl, refl, refl, refl)

-- a bad state in the first of 101 rows is not read, in the first of 100 it is
abbrev Older : Type 0
Older = (check_of 1 (row 4 absent ++ rows 100) ≡ Ok tt) × (check_of 1 (row 4 absent ++ rows 99) ≡ Err Objective)

older : Older
unfolding check_of recent_tests whole_rows row_count recent_count recent_of row_ok slot_read slot_ok agreeing slots_ok ids_once rows_agreeing every of_bits neg le
older = (refl, refl)

-- where a slot is by its id: an absent slot has none, and words that are no row of at most 20 slots have none
abbrev Places : Type 0
Places =
    (slot_place 2 (row 0 (slot 9 9 5 ++ slot 4 9 5)) 4 ≡ Some 1)
    × (slot_place 2 (row 0 (slot 9 9 5 ++ absent)) 0 ≡ None)
    × (slot_place 2 (row 0 (slot 9 9 5)) 9 ≡ None)
    × (slot_place 21 (row 0 (slot 9 9 5)) 9 ≡ None)

places : Places
unfolding slot_place slot_with place_of
places = (refl, refl, refl, refl)

-- the last hundred rows start behind the others
abbrev Parts : Type 0
Parts =
    (recent_part 1 (rows 102) ≡ record { start = 22; rows = 100 })
    × (recent_part 1 (rows 3) ≡ record { start = 0; rows = 3 })
    × (recent_part 21 (rows 3) ≡ record { start = 0; rows = 0 })

parts : Parts
unfolding recent_part whole_rows row_count recent_count recent_of
parts = (refl, refl, refl)

-- an id is first in the second row; a slot that differs from the first of its id, and an absent one
abbrev Firsts : Type 0
Firsts =
    (first_row_with 1 2 (row 0 absent ++ row 0 (slot 9 9 5)) 9 ≡ 1)
    × (first_row_with 1 2 (row 0 absent ++ row 0 (slot 9 9 5)) 4 ≡ 2)
    × (row_like_first 1 2 (row 0 (slot 9 9 5) ++ row 0 (slot 9 8 5)) (row 0 (slot 9 8 5)) ≡ false)
    × (row_like_first 1 2 (row 0 (slot 9 9 5) ++ row 0 absent) (row 0 absent) ≡ true)

firsts : Firsts
unfolding row_like_first like_first first_row_with slot_with place_of slot_read every equal_of shape_of read_of checked_of of_bits neg le lt eq
firsts = (refl, refl, refl, refl)

-- a row whose state alone is bad, one that has an id twice, and one whose distribution is not the first of its id
abbrev Passes : Type 0
Passes =
    (row_ok (row 4 absent) ≡ false)
    × (slots_ok 1 (row 4 absent) ≡ true)
    × (slots_ok 2 (row 0 (slot 9 9 5 ++ slot 9 9 5)) ≡ true)
    × (ids_once 2 (row 0 (slot 9 9 5 ++ slot 9 9 5)) ≡ false)
    × (row_like_first 1 2 (row 0 (slot 9 9 5) ++ row 0 (slot 9 8 5)) (row 0 (slot 9 8 5)) ≡ false)

passes : Passes
unfolding row_ok slots_ok slot_ok ids_once row_like_first like_first first_row_with slot_with place_of slot_read every equal_of shape_of float_step taken_of value_of float_taken int_taken read_of checked_of of_bits neg le lt eq
passes = (refl, refl, refl, refl, refl)
