-- x is m * 2 ^ e with 1 ≤ m < 2. In units of the format's smallest value a normal x is (2 ^ 52 + t) * 2 ^ (field - 1), and its m is (2 ^ 52 + t) * 2 ^ 1022, for the same t below 2 ^ 52. Assumes nothing.
use mathlib.Core.Path.{◌≡◌, refl, sym, ◌∙◌, subst}
use mathlib.Core.Logic.{inl, inr}
use Prim.Native.Nat.{ℕ, suc, ◌+◌, ◌-◌, ◌*◌, ◌/◌, ◌%◌, ◌^◌, ◌≤◌, ◌<◌}
use native.Mathlib.Nat.{le_trans, le_of_eq, mul-le-mul_right, mul-lt-mul_of_pos_right, mul-one, one-mul, mul_assoc, mul_comm, mul_right_comm, not-le_of_lt, mul_left_comm, mul-pos, eq_of_mul-eq-mul_right}
use native.Mathlib.Numerals.{unary_clauses}
use native.Mathlib.Omega.{arith}
use mathlib.Core.Bool.{true, false, true≢false, ◌&&◌}
use lib.Dec.{T, leb, ltb, leb→le, ltb→lt}
use lib.Pow.{pow_pos}
use lib.Ieee.{Float, nan, inf, fin, binary64, up, down, minus, le, lt, fits, is_nan, of_bits, of_int, to_bits}
use lib.Ieee.Bits.{of_bits-to_bits}
use lib.Ieee.Digits.{minus_val}
use lib.Ieee.Exact.{HasValue}
use lib.Ieee.Fits.{and_l, and_r}
use lib.Ieee.Order.{le_of_values}
use lib.Ieee.Positive.{positive_of_value, values_of_le}
use Rattle.arith.proofs.Order as order
use Rattle.arith.proofs.Patterns.{value_of, digits_of, above}
use Rattle.logarithm.specs.Ln.{field, digits, mantissa_of, exponent_of, normal, whole}
use Rattle.logarithm.specs.Split.{IsProduct, ArgumentIsSplit}

value-at : (b k : ℕ) → b / 4503599627370496 ≡ suc k → suc k < 2047 → HasValue (of_bits binary64 b) false ((2 ^ 52 + b % 4503599627370496) * 2 ^ k) (2 ^ 1074)
value-at b k e h = subst (λ (f : ℕ). HasValue (of_bits binary64 b) false (digits_of f (b % 4503599627370496) * 2 ^ above f) (2 ^ 1074)) e (value_of b (omega arith))

pub split : (x : Float) (k : ℕ) → T (fits binary64 x) → field x ≡ suc k → suc k < 2047
    → HasValue x false ((2 ^ 52 + digits x) * 2 ^ k) (2 ^ 1074) × HasValue (mantissa_of x) false ((2 ^ 52 + digits x) * 2 ^ 1022) (2 ^ 1074) × (digits x < 2 ^ 52)
unfolding field digits mantissa_of
split x k f e h =
    let t = to_bits binary64 x % 4503599627370496 in
    let e1 : (4607182418800017408 + t) / 4503599627370496 ≡ 1023 = omega arith in
    let e2 : (4607182418800017408 + t) % 4503599627370496 ≡ t = omega arith in (
      subst (λ (y : Float). HasValue y false ((2 ^ 52 + t) * 2 ^ k) (2 ^ 1074)) (of_bits-to_bits binary64 x f) (value-at (to_bits binary64 x) k e h),
      subst (λ (r : ℕ). HasValue (of_bits binary64 (4607182418800017408 + t)) false ((2 ^ 52 + r) * 2 ^ 1022) (2 ^ 1074)) e2 (value-at (4607182418800017408 + t) 1022 e1 (omega arith)),
      omega arith,
    )

-- ---- m is from 1 to below 2
module _ (m : Float) (t : ℕ) (few : t < 2 ^ 52) (v : HasValue m false ((2 ^ 52 + t) * 2 ^ 1022) (2 ^ 1074)) where
  pub from-one : T (le (whole 1) m)
  from-one =
      le_of_values (whole 1) m 1 1 ((2 ^ 52 + t) * 2 ^ 1022) (2 ^ 1074) (pow_pos 0) (pow_pos 1074) (unfold of_int in (refl, refl)) v
      (le_trans (le_of_eq (let e : 1 * 2 ^ 1074 ≡ 2 ^ 52 * 2 ^ 1022 = refl in e)) (le_trans (mul-le-mul_right (2 ^ 1022) (let g : 2 ^ 52 ≤ 2 ^ 52 + t = omega arith in g)) (le_of_eq (sym (mul-one ((2 ^ 52 + t) * 2 ^ 1022))))))

  pub below-two : T (lt m (whole 2))
  below-two = elim (order.total m (whole 2) (order.le-real (whole 1) m from-one).1 (unfold is_nan of_int in tt)) [
    | inl h ↦ h
    | inr h ↦
        let two : HasValue (whole 2) false 2 1 = unfold of_int in (refl, refl) in
        let g = values_of_le (whole 2) m 2 1 ((2 ^ 52 + t) * 2 ^ 1022) (2 ^ 1074) (positive_of_value (whole 2) 2 1 two (omega arith)) (positive_of_value m ((2 ^ 52 + t) * 2 ^ 1022) (2 ^ 1074) v (mul-pos (let g : 0 < 2 ^ 52 + t = omega arith in g) (pow_pos 1022))) two v h in
        let e : 2 * 2 ^ 1074 ≡ 2 ^ 53 * 2 ^ 1022 = refl in
        let u : (2 ^ 52 + t) * 2 ^ 1022 < 2 ^ 53 * 2 ^ 1022 = mul-lt-mul_of_pos_right (let g : 2 ^ 52 + t < 2 ^ 53 = omega arith in g) (pow_pos 1022) in
        absurd (not-le_of_lt u (le_trans (le_of_eq (sym e)) (le_trans g (le_of_eq (mul-one ((2 ^ 52 + t) * 2 ^ 1022))))))
  ]

-- ---- x is m × 2 ^ e
scaled : (x c a k p r u d y z : ℕ) → 0 < p * r → x * p ≡ a * k * y → c * p ≡ a * r * z → u * r ≡ k * d → x * z * d ≡ c * u * y
scaled x c a k p r u d y z h hx hc hu =
    eq_of_mul-eq-mul_right (p * r) h (x * z * d) (c * u * y)
    (let e : x * z * d * (p * r) ≡ x * p * (z * (d * r)) = simp (mul_assoc, mul_comm, mul_left_comm) in
    let f : c * u * y * (p * r) ≡ c * p * (u * r * y) = simp (mul_assoc, mul_comm, mul_left_comm) in
    rw (e, f, hx, hc, hu) (simp (mul_assoc, mul_comm, mul_left_comm)))

-- from the exponents of 2: 2 ^ (k + 1) over 2 ^ 1023 is 2 ^ k over 2 ^ 1022
halved : (u d k k2 r r2 : ℕ) → k2 ≡ k * 2 → r2 ≡ r * 2 → 1 * u * r2 ≡ 1 * k2 * d → u * r ≡ k * d
halved u d k k2 r r2 e f h =
    let a : u * r * 2 ≡ 1 * u * r2 = rw f (simp (one-mul, mul_assoc)) in
    let b : 1 * k2 * d ≡ k * d * 2 = rw e (simp (one-mul, mul_right_comm)) in
    eq_of_mul-eq-mul_right 2 (omega arith) (u * r) (k * d) (a ∙ h ∙ b)

product-of : (x m : Float) (a k : ℕ) → HasValue x false (a * 2 ^ k) (2 ^ 1074) → HasValue m false (a * 2 ^ 1022) (2 ^ 1074) → IsProduct x m (minus (suc k) 1023)
product-of nan m a k p q = absurd p
product-of (inf s) m a k p q = absurd p
product-of (fin true b c) m a k p q = absurd (true≢false p.0)
product-of (fin false b c) nan a k p q = absurd q
product-of (fin false b c) (inf s) a k p q = absurd q
product-of (fin false b c) (fin true d e) a k p q = absurd (true≢false q.0)
product-of (fin false b c) (fin false d e) a k p q =
    let z = minus (suc k) 1023 in
    scaled (b * up c) (d * up e) a (2 ^ k) (2 ^ 1074) (2 ^ 1022) (up z) (down z) (down c) (down e) (mul-pos (pow_pos 1074) (pow_pos 1022)) p.1 q.1
    (halved (up z) (down z) (2 ^ k) (2 ^ suc k) (2 ^ 1022) (2 ^ 1023) (simp unary_clauses refl) refl (minus_val 1 (suc k) 1023))

-- ---- so of every normal x
pub field_in : (x : Float) → T (normal x) → (1 ≤ field x) × (field x < 2047)
unfolding normal
field_in x t =
    let a = leb 1 (field x) in
    let b = ltb (field x) 2047 in
    let u = and_r (lt (of_bits binary64 0) x) (a && b) t in
    (leb→le 1 (field x) (and_l a b u), ltb→lt (field x) 2047 (and_r a b u))

module _ (x : Float) (f : T (fits binary64 x)) (n : T (normal x)) where
  abbrev k : ℕ
  k = field x - 1

  field-is : field x ≡ suc k
  field-is = let r = field_in x n in omega arith

  parts : HasValue x false ((2 ^ 52 + digits x) * 2 ^ k) (2 ^ 1074) × HasValue (mantissa_of x) false ((2 ^ 52 + digits x) * 2 ^ 1022) (2 ^ 1074) × (digits x < 2 ^ 52)
  parts = split x k f field-is (let r = field_in x n in omega (arith, field-is))

  product : IsProduct x (mantissa_of x) (exponent_of x)
  unfolding exponent_of
  product = rw field-is (product-of x (mantissa_of x) (2 ^ 52 + digits x) k parts.0 parts.1)

pub argument_is_split : ArgumentIsSplit
argument_is_split = record {
  product = product;
  from_one = λ x f n. from-one (mantissa_of x) (digits x) (parts x f n).2 (parts x f n).1;
  below_two = λ x f n. below-two (mantissa_of x) (digits x) (parts x f n).2 (parts x f n).1;
}
