-- ln, document 01's recipe line by line. Definitions only.
use Rattle.refusal.specs.declared.Refusal.TheVariants.{OutOfDomain}
use Rattle.refusal.specs.declared.Refusal.{Refusal}
use Rattle.std.specs.Prelude.{ℕ, zero, suc, ◌+◌, ◌*◌, ◌/◌, ◌%◌, Bool, cond, ◌&&◌, leb, ltb, ℤ, pos, Float, Result, Ok, Err}
use Rattle.std.specs.Float.{binary64}
use Rattle.std.specs.Float.Ieee.{add, sub, mul, div, lt, of_int, of_bits, to_bits, minus}
use Rattle.arith.specs.Outcome.{pick}
use Rattle.arith.specs.Ln2.{H, L}

abbrev pub whole : ℕ → Float
whole n = of_int binary64 (pos n)

-- the exponent's field of x's pattern, and the digits below the leading one
unfoldable pub field : Float → ℕ
field x = to_bits binary64 x / 4503599627370496

unfoldable pub digits : Float → ℕ
digits x = to_bits binary64 x % 4503599627370496

-- "normal positive finite"
unfoldable pub normal : Float → Bool
unfolding field
normal x = lt (of_bits binary64 0) x && (leb 1 (field x) && ltb (field x) 2047)

-- "x = m × 2^e, 1 ≤ m < 2": the same digits with the field of 1, and how far the fields are apart (specs/Split states that they are these)
unfoldable pub mantissa_of : Float → Float
unfolding digits
mantissa_of x = of_bits binary64 (0x3ff0000000000000 + digits x)

unfoldable pub exponent_of : Float → ℤ
unfolding field
exponent_of x = minus (field x) 1023

-- "q = 1/d + z × q for odd d", the n of them from 2 * n - 1 down to 1
unfoldable pub series : ℕ → Float → Float → Float
series zero z q = q
series (suc n) z q = series n z (add binary64 (div binary64 (whole 1) (whole (2 * n + 1))) (mul binary64 z q))

-- "s = (m − 1)/(m + 1), z = s × s, q = 1/23, then .. d from 21 to 1. Answer e × H + ((2 × s) × q + e × L)."
unfoldable pub series_of : Float → Float → Float
unfolding series
series_of m e =
    let s = div binary64 (sub binary64 m (whole 1)) (add binary64 m (whole 1)) in
    let z = mul binary64 s s in
    let q = series 11 z (div binary64 (whole 1) (whole 23)) in
    add binary64 (mul binary64 e H) (add binary64 (mul binary64 (mul binary64 (whole 2) s) q) (mul binary64 e L))

-- "if m > 1.4142135623730951 halve m, add 1 to e"
unfoldable pub halved_of : Float → Float → Float
unfolding series_of
halved_of m e =
    cond (lt (of_bits binary64 0x3ff6a09e667f3bcd) m) (series_of (mul binary64 m (of_bits binary64 0x3fe0000000000000)) (add binary64 e (whole 1)))
    (series_of m e)

unfoldable pub ln_of : Float → Result Float Refusal
unfolding normal halved_of mantissa_of exponent_of
ln_of x = pick (normal x) (Ok (halved_of (mantissa_of x) (of_int binary64 (exponent_of x)))) (Err OutOfDomain)
