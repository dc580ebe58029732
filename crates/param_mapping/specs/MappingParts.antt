-- A step of the code's way to the first entry by id. Definitions only.
use Rattle.std.specs.Prelude.{ℕ, Bool, true, ◌&&◌, cond, List, ltb, Option, Some, None}
use Rattle.slots.specs.Slot.{id_of, present}

-- whether an id comes before that of the entry found so far
abbrev pub beats_of : ℕ → Option ℕ → Bool
beats_of id (Some other) = ltb id other
beats_of id None = true

-- the better of a slot and the entry found so far, of lesser id
abbrev pub better_of : (List ℕ → Bool) → List ℕ → Option ℕ → Option ℕ
better_of t v best = cond (present v && t v && beats_of (id_of v) best) (Some (id_of v)) best
