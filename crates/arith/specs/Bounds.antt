-- What the laws on floats speak of. Definitions only.
use Rattle.std.specs.Prelude.{Bool, true, false, not, T, from_bits, is_nan, Float}
use Rattle.std.specs.Float.{nan, inf, fin, binary64}
use Rattle.std.specs.Float.Ieee.{le}

-- x is no NaN
abbrev pub real : Float → Type 0
real x = T (not (is_nan x))

-- the size of a value
abbrev pub abs : Float → Float
abs nan = nan
abs (inf s) = inf false
abs (fin s m e) = fin false m e

-- whether a value has the minus sign
abbrev pub negative : Float → Bool
negative nan = false
negative (inf s) = s
negative (fin s m e) = s

-- x is at most b in size: with a finite b, x is finite too
abbrev pub Within : Float → Float → Type 0
Within b x = T (le (abs x) b)

-- x is from lo to hi
abbrev pub Between : Float → Float → Float → Type 0
Between lo hi x = T (le lo x) × T (le x hi)

-- the sign of a value, a zero having both: not below 0, and not above it
abbrev pub Sign : Bool → Float → Type 0
Sign false x = T (le (from_bits binary64 0) x)
Sign true x = T (le x (from_bits binary64 0))
