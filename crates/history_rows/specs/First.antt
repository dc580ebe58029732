-- The tests of a row as the code makes them: 7 compares each present slot with the first recent slot of its id. Definitions only.
use Rattle.std.specs.Prelude.{ℕ, Bool, not, ◌||◌, List, ltb}
use Rattle.arith.specs.Lists.{every, place_of}
use Rattle.history_rows.specs.Rows.{row_at, slot_at}
use Rattle.slots.specs.Slot.{id_of}
use Rattle.slots.specs.Slot.{present, slot_read, reads_equal}
use Rattle.history_rows.specs.Slots.{slot_with}

-- the first of m rows that has the id, or m
unfoldable pub first_row_with : ℕ → ℕ → List ℕ → ℕ → ℕ
unfolding slot_with
first_row_with n m r id = place_of m (λ i. ltb (slot_with n (row_at n r i) id) n)

-- the slot of that id there
abbrev pub first_slot_with : ℕ → ℕ → List ℕ → ℕ → List ℕ
first_slot_with n m r id = slot_at (row_at n r (first_row_with n m r id)) (slot_with n (row_at n r (first_row_with n m r id)) id)

unfoldable pub like_first : ℕ → ℕ → List ℕ → List ℕ → Bool
unfolding slot_read first_row_with slot_with
like_first n m r v = not (present v) || reads_equal (slot_read (first_slot_with n m r (id_of v))) (slot_read v)

unfoldable pub row_like_first : ℕ → ℕ → List ℕ → List ℕ → Bool
unfolding like_first
row_like_first n m r row = every n (λ s. like_first n m r (slot_at row s))
