-- Places in an array. Definitions only.
use Rattle.std.specs.Prelude.{ℕ, ◌+◌, Bool, cond, List, length, set}
use Rattle.arith.specs.Lists.{filled}
use Rattle.history.specs.declared.Places.{Places}

-- the places of a list, with their count
abbrev pub places_in : List ℕ → Places
places_in xs = record { count = length xs; at = filled 0 100 xs }

-- one more, where the test holds
abbrev pub with_place : List ℕ → ℕ → ℕ → Bool → Places
with_place at count i test = cond test (record { count = count + 1; at = set at count i }) (record { count = count; at = at })
