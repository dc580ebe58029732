-- A unit float is exactly (word >> 12)/2^52, so it is finite, at least +0 and below 1: the quotient has few enough digits to be held without rounding.
use mathlib.Core.Path.{refl, sym, ap, ◌∙◌}
use mathlib.Core.Bool.{true, false, true≢false}
use Prim.Native.Nat.{ℕ, ◌*◌, ◌/◌, ◌^◌, ◌<◌, zero-le}
use native.Mathlib.Nat.{mul_assoc, mul_comm, mul-one, one-mul, mul-pos, lt_of_lt_of_le, lt_of_mul-lt-mul_right, mul-lt-mul_of_pos_right, mul_right_comm}
use native.Mathlib.Omega.{arith}
use lib.Dec.{T, lt→ltb, lit<, lit≤}
use lib.IntN.{pos}
use lib.Pow.{pow_pos, shl_lt, shr_lt}
use lib.Ieee.{Float, nan, inf, fin, binary64, up, down, round, div, le, lt, of_bits, of_int}
use lib.Ieee.Back.{round_whole}
use lib.Ieee.Exact.{HasValue, round_exact}
use lib.Ieee.Fits.{down_pos}
use lib.Ieee.Order.{le_of_values}
use lib.Ieee.Scale.{finite, round_same}
use Rattle.rng_util.specs.Draws.{unit_of}

-- n/2^52 is a value of the format
quotient-exact : (n : ℕ) → n < 2 ^ 52 → HasValue (round binary64 false n (2 ^ 52)) false n (2 ^ 52)
quotient-exact n h =
    round_exact binary64 false n (2 ^ 52) n 1022 (pow_pos 52) (lt_of_lt_of_le h (lit≤ tt)) (lt_of_lt_of_le (shl_lt 52 1022 h) (lit≤ tt))
    (sym (mul_assoc n (2 ^ 1022) (2 ^ 52)))

-- and the division gives it
div-exact : (x : Float) (n : ℕ) → n < 2 ^ 52 → HasValue x false n 1 → HasValue (div binary64 x (fin false 1 (pos 52))) false n (2 ^ 52)
unfolding div
div-exact nan n h v = absurd v
div-exact (inf s) n h v = absurd v
div-exact (fin true m e) n h v = absurd (true≢false v.0)
div-exact (fin false m e) n h v =
    rw (round_same binary64 false (m * up e * 1) (2 ^ 52 * down e) n (2 ^ 52) (mul-pos (pow_pos 52) (down_pos e)) (pow_pos 52)
    (ap (λ (y : ℕ). y * 2 ^ 52) v.1 ∙ mul_right_comm n (down e) (2 ^ 52) ∙ mul_assoc n (2 ^ 52) (down e)))
    (quotient-exact n h)

value-finite : (x : Float) (a c : ℕ) → HasValue x false a c → T (finite x)
value-finite nan a c v = absurd v
value-finite (inf s) a c v = absurd v
value-finite (fin s m e) a c v = tt

value-below-one : (x : Float) (a c : ℕ) → HasValue x false a c → a < c → T (lt x (fin false 1 (pos 0)))
unfolding lt
value-below-one nan a c v h = absurd v
value-below-one (inf s) a c v h = absurd v
value-below-one (fin true m e) a c v h = absurd (true≢false v.0)
value-below-one (fin false m e) a c v h =
    lt→ltb (m * up e * 1) (1 * down e)
    (rw (mul-one, one-mul) (lt_of_mul-lt-mul_right c (rw (v.1, mul_comm (down e) c) (mul-lt-mul_of_pos_right h (down_pos e)))))

module _ (word : ℕ) (fits : word < 2 ^ 64) where
  small : word / 2 ^ 12 < 2 ^ 52
  small = shr_lt 52 12 fits

  pub unit-exact : HasValue (unit_of word) false (word / 2 ^ 12) (2 ^ 52)
  unfolding unit_of of_int
  unit-exact = div-exact (of_int binary64 (pos (word / 2 ^ 12))) (word / 2 ^ 12) small (round_whole binary64 false (word / 2 ^ 12) (omega (arith, small)))

  pub unit-finite : T (finite (unit_of word))
  unit-finite = value-finite (unit_of word) (word / 2 ^ 12) (2 ^ 52) unit-exact

  pub unit-nonnegative : T (le (of_bits binary64 0) (unit_of word))
  unfolding of_bits
  unit-nonnegative = le_of_values (of_bits binary64 0) (unit_of word) 0 1 (word / 2 ^ 12) (2 ^ 52) (lit< tt) (pow_pos 52) (refl, refl) unit-exact zero-le

  pub unit-below-one : T (lt (unit_of word) (of_int binary64 (pos 1)))
  unfolding of_int
  unit-below-one = value-below-one (unit_of word) (word / 2 ^ 12) (2 ^ 52) unit-exact small
