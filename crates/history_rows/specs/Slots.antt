-- The slot of an id in a row. Definitions only.
use Rattle.std.specs.Prelude.{ℕ, ◌&&◌, cond, List, eqb, leb, ltb, length, Option, Some, None}
use Rattle.arith.specs.Lists.{place_of}
use Rattle.slots.specs.Slot.{has_id}
use Rattle.history_rows.specs.Rows.{slot_at, width_of}

-- the place of the slot with that id in a row of n slots, or n
unfoldable pub slot_with : ℕ → List ℕ → ℕ → ℕ
slot_with n row id = place_of n (λ s. has_id id (slot_at row s))

-- a place of n, or none
abbrev pub below : ℕ → ℕ → Option ℕ
below n s = cond (ltb s n) (Some s) None

-- that place where the words are a row of at most 20 slots, else none
unfoldable pub slot_place : ℕ → List ℕ → ℕ → Option ℕ
unfolding slot_with
slot_place n row id = cond (leb n 20 && eqb (length row) (width_of n)) (below n (slot_with n row id)) None
