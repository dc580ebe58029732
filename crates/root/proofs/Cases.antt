-- The definitions at single points, computed; the words are what IEEE 754's square root gives. Assumes nothing.
use mathlib.Core.Path.{◌≡◌, refl, subst}
use mathlib.Core.Bool.{true, false}
use lib.Dec.{lit<}
use lib.IntN.{pos, negsuc}
use lib.Ieee.{nan, inf, binary64, fits, of_bits, of_int, round}
use Rattle.root.specs.Sqrt.{better, isqrt, halves, sqrt_of}
use Rattle.root.specs.Rooted.{Rooted}
use Rattle.root.proofs.SqrtLaws.{is_rounded}

-- the whole root of 15 and of 16, and the digit that says that something is left
abbrev Whole : Type 0
Whole =
    (isqrt 3 15 ≡ 3)
    × (isqrt 3 16 ≡ 4)
    × (better 16 3 ≡ 4)
    × (better 15 3 ≡ 3)
    × (halves 15 3 ≡ 7)
    × (halves 16 4 ≡ 8)

whole : Whole
unfolding isqrt
whole = (refl, refl, refl, refl, refl, refl)

-- (g) of document 01's sample book; 941055 * 2^-1074, a float below the normal ones; and the values with no digits to compute
abbrev Roots : Type 0
Roots =
    (sqrt_of (of_bits binary64 0x4000000000000000) ≡ of_bits binary64 0x3ff6a09e667f3bcd)
    × (sqrt_of (of_bits binary64 0x00000000000e5bff) ≡ of_bits binary64 0x1efe50a39f43c1ed)
    × (sqrt_of (of_bits binary64 0x8000000000000000) ≡ of_bits binary64 0x8000000000000000)
    × (sqrt_of (inf false) ≡ inf false)
    × (sqrt_of (inf true) ≡ nan)
    × (sqrt_of (of_int binary64 (negsuc 0)) ≡ nan)

roots : Roots
unfolding sqrt_of of_bits of_int round
roots = (refl, refl, refl, refl, refl, refl)

rooted-2 : Rooted 1 (pos 1) (of_bits binary64 0x3ff6a09e667f3bcd)
rooted-2 = subst (Rooted 1 (pos 1)) roots.0 (unfold of_bits in is_rounded.positive 1 (pos 1) (lit< tt) (unfold fits in tt))
