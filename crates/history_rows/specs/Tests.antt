-- The tests 3 to 7, each over all recent rows before the next. r stands for the words of the recent rows. Definitions only.
use Rattle.refusal.specs.declared.Refusal.{Refusal}
use Rattle.refusal.specs.declared.Refusal.TheVariants.{BrokenRows, Objective, Slot, RepeatedId, UnequalId, OutOfDomain}
use Rattle.std.specs.Prelude.{ℕ, Bool, cond, not, ◌&&◌, List, [], ◌∷◌, leb, pos, Result, Ok, Err}
use Rattle.std.specs.Float.{binary64}
use Rattle.std.specs.Float.Ieee.{of_bits}
use Rattle.arith.specs.Lists.{every}
use Rattle.distribution.specs.Shape.{power, within}
use Rattle.slots.specs.Slot.{slot_ok, same_id, agreeing}
use Rattle.history_rows.specs.Rows.{row_at, state_of, objective_of, slot_at, whole_rows, row_count, recent_of}

-- "state (0 Running, 1 Complete, 2 Failed, 3 Pruned), objective (finite, magnitude ≤ 2^52)"
unfoldable pub row_ok : List ℕ → Bool
row_ok row = leb (state_of row) 3 && within (power (pos 52)) (of_bits binary64 (objective_of row))

-- ---- the tests of one row, and of two

unfoldable pub slots_ok : ℕ → List ℕ → Bool
unfolding slot_ok
slots_ok n row = every n (λ s. slot_ok (slot_at row s))

-- no two slots of the row have one id
unfoldable pub ids_once : ℕ → List ℕ → Bool
ids_once n row = every n (λ a. every a (λ b. not (same_id (slot_at row b) (slot_at row a))))

unfoldable pub rows_agreeing : ℕ → List ℕ → List ℕ → Bool
unfolding agreeing
rows_agreeing n row other = every n (λ a. every n (λ b. agreeing (slot_at row a) (slot_at other b)))

-- ---- over all recent rows

-- the cause of the first test that fails
abbrev pub first_of : List (Refusal × Bool) → Result Unit Refusal
first_of [] = Ok tt
first_of (t ∷ ts) = cond t.1 (first_of ts) (Err t.0)

-- "recent state or objective bad" 4, "recent slot bad" 5, "an id twice in a recent row" 6, "an id with two unequal distributions in recent rows" 7
unfoldable pub recent_tests : ℕ → ℕ → List ℕ → List (Refusal × Bool)
unfolding row_ok slots_ok ids_once rows_agreeing
recent_tests n m r =
    (Objective, every m (λ i. row_ok (row_at n r i)))
    ∷ (Slot, every m (λ i. slots_ok n (row_at n r i)))
    ∷ (RepeatedId, every m (λ i. ids_once n (row_at n r i)))
    ∷ (UnequalId, every m (λ i. every m (λ j. rows_agreeing n (row_at n r i) (row_at n r j))))
    ∷ []

-- what a history is refused for: slots outside 1 to 20 (11), words that are no whole rows (3), then the tests of the recent rows
unfoldable pub check_of : ℕ → List ℕ → Result Unit Refusal
unfolding whole_rows row_count recent_of recent_tests
check_of n h = first_of ((OutOfDomain, leb 1 n && leb n 20) ∷ (BrokenRows, whole_rows n h) ∷ recent_tests n (row_count n (recent_of n h)) (recent_of n h))
