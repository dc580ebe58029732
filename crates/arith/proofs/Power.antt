-- The bit pattern b * 2 ^ 52 is that of 2 ^ (b - 1023). Assumes nothing.
use Rattle.std.proofs.Common.{◌≡◌, ℕ, zero, suc, ◌+◌, ◌-◌, ◌*◌, ◌/◌, ◌%◌, ◌<◌, ◌≤◌, Bool, true, false, cond, not, T, eqb, leb, pos, negsuc, sym, ap, ◌∙◌, subst, arith, eqb→eq, leb→le}
use lib.Dec.{nleb→lt}
use lib.Count.{count_trailing_zeros}
use lib.Ieee.{fin, binary64, of_bits, of_fields, odd, minus, nan_bits, is_nan, top, hid}
use lib.Ieee.Bits.{nan_bits_is}
use Rattle.arith.proofs.Tests.{is_false}

shift : (x : ℕ) → minus (x + 52) 1074 ≡ minus (suc x) 1023
shift x = go (leb 1074 (x + 52)) (leb 1023 (suc x)) (leb→le 1074 (x + 52)) (nleb→lt 1074 (x + 52)) (leb→le 1023 (suc x)) (nleb→lt 1023 (suc x))
  where
    go : (a b : Bool) → (T a → 1074 ≤ x + 52) → (T (not a) → x + 52 < 1074) → (T b → 1023 ≤ suc x) → (T (not b) → suc x < 1023)
        → cond a (pos (x + 52 - 1074)) (negsuc (1074 - suc (x + 52))) ≡ cond b (pos (suc x - 1023)) (negsuc (1023 - suc (suc x)))
    go true true p q r s = ap pos (omega arith)
    go true false p q r s = let u = p tt in let v = s tt in absurd (omega arith)
    go false true p q r s = let u = q tt in let v = r tt in absurd (omega arith)
    go false false p q r s = ap negsuc (let u = q tt in omega arith)

fields : (b : ℕ) → 0 < b → b < 2047 → of_fields binary64 false b 0 ≡ fin false 1 (minus b 1023)
unfolding of_fields odd count_trailing_zeros
fields zero p h = absurd (omega arith)
fields (suc x) p h = rw (off) (ap (λ z. fin false 1 z) (shift x))
  where
    off : eqb (suc x) 2047 ≡ false
    off = is_false (eqb (suc x) 2047) (λ t. let e = eqb→eq (suc x) 2047 t in omega arith)

pub bits-power : (b : ℕ) → 0 < b → b < 2047 → of_bits binary64 (b * 4503599627370496) ≡ fin false 1 (minus b 1023)
unfolding of_bits
bits-power b p h =
    let e1 : leb (top binary64) (b * 4503599627370496) ≡ false = is_false (leb (top binary64) (b * 4503599627370496)) (λ t. let g = leb→le (top binary64) (b * 4503599627370496) t in omega arith) in
    let e2 : b * 4503599627370496 % top binary64 / hid binary64 ≡ b = omega arith in
    let e3 : b * 4503599627370496 % hid binary64 ≡ 0 = omega arith in
    rw (e1, e2, e3) (fields b p h)

pub bits-no-nan : (b : ℕ) → 0 < b → b < 2047 → T (not (nan_bits binary64 (b * 4503599627370496)))
unfolding is_nan
bits-no-nan b p h =
    subst (λ (x : Bool). T (not x)) (sym (nan_bits_is binary64 (b * 4503599627370496) ∙ ap is_nan (bits-power b p h))) tt
