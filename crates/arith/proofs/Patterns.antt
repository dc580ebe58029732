-- A bit pattern and the value it stands for. Assumes nothing.
use Rattle.std.proofs.Common.{◌≡◌, ℕ, zero, suc, ◌+◌, ◌-◌, ◌*◌, ◌/◌, ◌%◌, ◌^◌, ◌<◌, ◌≤◌, Bool, true, false, cond, not, ◌&&◌, T, eqb, ltb, leb, ℤ, sym, ◌∙◌, subst, le_of_eq, lt_of_lt_of_le, div-lt_iff_lt-mul, mul-lt-mul_of_pos_right, mul-pos, zero-mul, mul_right_comm, arith, eqb→eq, ltb→lt, leb→le, pow_pos, le-ltb}
use lib.Ieee.{nan, inf, fin, binary64, up, down, size, odd, fits, to_bits, of_bits, of_fields, nan_bits, top, hid}
use lib.Ieee.Bits.{nan_bits_above}
use lib.Ieee.Digits.{size-le}
use lib.Ieee.Exact.{HasValue, odd_sign}
use lib.Ieee.Fits.{down_pos, and_r, kept-lt}
use Rattle.arith.proofs.Tests.{is_false}

-- ---- a pattern below that of infinity: its digits and its exponent
abbrev pub digits_of : ℕ → ℕ → ℕ
digits_of zero t = t
digits_of (suc x) t = 4503599627370496 + t

abbrev pub above : ℕ → ℕ
above zero = 0
above (suc x) = x

fields : (x t : ℕ) → x < 2047 → HasValue (of_fields binary64 false x t) false (digits_of x t * 2 ^ above x) (2 ^ 1074)
unfolding of_fields
fields zero t h = odd_sign 53 false t 0 1074
fields (suc x) t h = go (eqb (suc x) 2047) (eqb→eq (suc x) 2047)
  where
    go : (b : Bool) → (T b → suc x ≡ 2047) → HasValue (cond b (cond (eqb t 0) (inf false) nan) (odd 53 false (4503599627370496 + t) x 1074)) false ((4503599627370496 + t) * 2 ^ x) (2 ^ 1074)
    go true e = let q = e tt in absurd (omega arith)
    go false e = odd_sign 53 false (4503599627370496 + t) x 1074

pub value_of : (b : ℕ) → b < 9218868437227405312 → HasValue (of_bits binary64 b) false (digits_of (b / 4503599627370496) (b % 4503599627370496) * 2 ^ above (b / 4503599627370496)) (2 ^ 1074)
unfolding of_bits
value_of b h =
    let e1 : leb (top binary64) b ≡ false = is_false (leb (top binary64) b) (λ t. let g = leb→le (top binary64) b t in omega arith) in
    let e2 : b % top binary64 / hid binary64 ≡ b / 4503599627370496 = omega arith in
    rw (e1, e2) (fields (b / 4503599627370496) (b % 4503599627370496) (omega arith))

-- ---- such a pattern is no NaN's
pub no_nan : (b : ℕ) → b < 9218868437227405312 → T (not (nan_bits binary64 b))
no_nan b h = subst (λ (x : Bool). T (not x)) (sym (nan_bits_above binary64 b ∙ le-ltb 9218868437227405312 (b % 9223372036854775808) (omega arith))) tt

-- ---- a finite value's pattern is below that of infinity
below_top : (a d : ℕ) → 0 < d → a < 2 ^ 1024 * d → a * 2 ^ 1074 / d < 2 ^ 2098
below_top a d D h = (div-lt_iff_lt-mul D).1 (lt_of_lt_of_le (mul-lt-mul_of_pos_right h (pow_pos 1074)) (le_of_eq (mul_right_comm (2 ^ 1024) d (2 ^ 1074))))

finite-size : (m : ℕ) (e : ℤ) → T (fits binary64 (fin false m e)) → m * up e < 2 ^ 1024 * down e
unfolding fits
finite-size zero e t = subst (λ (x : ℕ). x < 2 ^ 1024 * down e) (sym (zero-mul (up e))) (mul-pos (pow_pos 1024) (down_pos e))
finite-size (suc m) e t = ltb→lt (suc m * up e) (2 ^ 1024 * down e) (and_r (eqb (suc m % 2) 1 && ltb (suc m) (2 ^ 53) && leb (down e) (2 ^ 1074)) (ltb (suc m * up e) (2 ^ 1024 * down e)) t)

pub finite-bits : (m : ℕ) (e : ℤ) → T (fits binary64 (fin false m e)) → to_bits binary64 (fin false m e) < 9218868437227405312
unfolding to_bits
finite-bits m e t =
    let n = m * up e * 2 ^ 1074 / down e in
    go (size n) (n / 2 ^ (size n - 53)) (size-le n 2098 (below_top (m * up e) (down e) (down_pos e) (finite-size m e t))) (kept-lt 53 n)
  where
    go : (z r : ℕ) → z ≤ 2098 → r < 2 ^ 53 → 0 + (z - 53) * 4503599627370496 + r < 9218868437227405312
    go z r a b = omega arith
