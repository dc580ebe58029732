-- The definitions at single points, computed; the words of ln are what the Rust answers with document 01's recipe. Assumes nothing.
use mathlib.Core.Path.{◌≡◌, refl}
use mathlib.Core.Bool.{true, false}
use lib.IntN.{pos, negsuc}
use lib.Ieee.{inf, binary64, of_bits, of_int, to_bits, round, add, sub, mul, div, lt}
use Rattle.refusal.specs.declared.Refusal.TheVariants.{OutOfDomain}
use Rattle.std.specs.Prelude.{Ok, Err}
use Rattle.logarithm.specs.Ln.{whole, field, digits, normal, mantissa_of, exponent_of, series, series_of, halved_of, ln_of}

-- 6 is 1.5 * 2^2 and 0.75 is 1.5 * 2^-1; the least normal float, the one below it, 0, an infinity and -1
abbrev Split : Type 0
Split =
    (field (whole 1) ≡ 1023)
    × (digits (whole 3) ≡ 2251799813685248)
    × (mantissa_of (whole 6) ≡ of_bits binary64 0x3ff8000000000000)
    × (exponent_of (whole 6) ≡ pos 2)
    × (exponent_of (of_bits binary64 0x3fe8000000000000) ≡ negsuc 0)
    × (normal (of_bits binary64 0x0010000000000000) ≡ true)
    × (normal (of_bits binary64 0x000fffffffffffff) ≡ false)
    × (normal (whole 0) ≡ false)
    × (normal (inf false) ≡ false)
    × (normal (of_int binary64 (negsuc 0)) ≡ false)

split : Split
unfolding field digits mantissa_of exponent_of normal of_bits of_int to_bits round lt
split = (refl, refl, refl, refl, refl, refl, refl, refl, refl, refl)

-- 1/1 + z × (1/3 + z × q) at z = 1/2 and q = 1
steps : series 2 (of_bits binary64 0x3fe0000000000000) (whole 1) ≡ of_bits binary64 0x3ff6aaaaaaaaaaaa
unfolding series of_bits of_int round add mul div
steps = refl

-- ln of 2, of 1.5, which is halved, of the last float that is not halved and of the next one, and of 0
abbrev Points : Type 0
Points =
    (ln_of (whole 2) ≡ Ok (of_bits binary64 0x3fe62e42fefa39ef))
    × (ln_of (of_bits binary64 0x3ff8000000000000) ≡ Ok (of_bits binary64 0x3fd9f323ecbf984c))
    × (ln_of (of_bits binary64 0x3ff6a09e667f3bcd) ≡ Ok (of_bits binary64 0x3fd62e42fefa39f1))
    × (ln_of (of_bits binary64 0x3ff6a09e667f3bce) ≡ Ok (of_bits binary64 0x3fd62e42fefa39f3))
    × (ln_of (whole 0) ≡ Err OutOfDomain)

points : Points
unfolding ln_of halved_of series_of series normal field digits mantissa_of exponent_of of_bits of_int to_bits round add sub mul div lt
points = (refl, refl, refl, refl, refl)
