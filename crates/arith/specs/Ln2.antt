-- ln 2 in two parts, of exp and of ln. Definitions only.
use Rattle.std.specs.Prelude.{from_bits, Float}
use Rattle.std.specs.Float.{binary64}

-- ln 2 in two parts
abbrev pub H : Float
H = from_bits binary64 0x3fe62e42fee00000

abbrev pub L : Float
L = from_bits binary64 0x3dea39ef35793c76
