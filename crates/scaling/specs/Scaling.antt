-- Between internal bounds and the unit interval, as gp.rs scales. Definitions only.
use Rattle.std.specs.Prelude.{cond, Float}
use Rattle.std.specs.Float.{binary64}
use Rattle.std.specs.Float.Ieee.{add, sub, mul, div, lt, of_bits}
use Rattle.arith.specs.Bounds.{abs}

-- "|hi − lo| < 1e-15 normalises to 0.5"
unfoldable pub to_normalized_of : Float → Float → Float → Float
to_normalized_of value lo hi =
    cond (lt (abs (sub binary64 hi lo)) (of_bits binary64 0x3cd203af9ee75616)) (of_bits binary64 0x3fe0000000000000)
    (div binary64 (sub binary64 value lo) (sub binary64 hi lo))

unfoldable pub from_normalized_of : Float → Float → Float → Float
from_normalized_of value lo hi = add binary64 lo (mul binary64 value (sub binary64 hi lo))
