-- A float to a whole float. "Round is half away from 0, a zero keeping the argument's sign as in Rust." Floor is downward. Definitions only.
use Rattle.std.specs.Prelude.{ℕ, ◌+◌, ◌-◌, ◌*◌, ◌/◌, true, false, Float}
use Rattle.std.specs.Float.{nan, inf, fin, binary64}
use Rattle.std.specs.Float.Ieee.{round, up, down}

-- the size m * 2 ^ e of a finite value, to the nearest whole number, a half upward
unfoldable pub nearest_of : Float → ℕ
nearest_of nan = 0
nearest_of (inf s) = 0
nearest_of (fin s m e) = (2 * (m * up e) + down e) / (2 * down e)

-- with the argument's sign, so that a half goes away from 0
unfoldable pub round_of : Float → Float
unfolding nearest_of
round_of nan = nan
round_of (inf s) = inf s
round_of (fin s m e) = round binary64 s (nearest_of (fin s m e)) 1

-- below 0 the size goes up to a whole number
unfoldable pub floor_of : Float → Float
floor_of nan = nan
floor_of (inf s) = inf s
floor_of (fin false m e) = round binary64 false (m * up e / down e) 1
floor_of (fin true m e) = round binary64 true ((m * up e + (down e - 1)) / down e) 1
