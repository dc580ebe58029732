-- From the tests on x to the range of k, by monotone rounding, and what the tests pick. Assumes nothing.
use Rattle.std.proofs.Common.{◌≡◌, ℕ, zero, suc, ◌+◌, ◌-◌, ◌*◌, ◌<◌, ◌≤◌, Bool, true, false, cond, not, T, leb, ◌⊎◌, ℤ, pos, negsuc, neg_ℤ, sym, refl, ap, ◌∙◌, subst, inl, inr, true≢false, arith, leb→le}
use lib.Dec.{nleb→lt}
use lib.Ieee.{Float, nan, inf, fin, binary64, up, down, add, sub, mul, div, neg, fits, lt, le, minus, of_int, of_bits, is_nan}
use lib.Ieee.Scale.{finite}
use Rattle.arith.specs.Bounds.{real, Within, negative}
use Rattle.arith.proofs.Within.{within, mul_in, widen, neg-round, negative-round, within-finite}
use Rattle.arith.proofs.Order as order
use Rattle.arith.proofs.Zero.{zero_exponent, lt-zero, not-lt-zero}
use Rattle.arith.specs.Rounding.{nearest_of, round_of}
use Rattle.exponential.specs.Exp.{scaled_of, horner_of, reduced_of, whole_of, one, log2e}
use Rattle.arith.proofs.Nearest.{nearest-at-most}

abbrev lo : Float
lo = of_int binary64 (negsuc 707)

abbrev hi : Float
hi = of_int binary64 (pos 709)

pub below-zero : (x : Float) → real x → T (not (lt x lo)) → T (lt x (of_bits binary64 0)) → Within (fin false 177 (pos 2)) x
unfolding of_int of_bits le neg is_nan
below-zero x r h k =
    within (fin false 177 (pos 2)) x (order.le_trans x (fin false 0 (pos 0)) (fin false 177 (pos 2)) (order.le_of_lt x (fin false 0 (pos 0)) k) tt) (order.le_of_not_lt x (fin true 177 (pos 2)) r tt h)

pub from_zero : (x : Float) → real x → T (not (lt hi x)) → T (not (lt x (of_bits binary64 0))) → Within (fin false 709 (pos 0)) x
unfolding of_int of_bits le neg is_nan
from_zero x r h k =
    within (fin false 709 (pos 0)) x (order.le_of_not_lt (fin false 709 (pos 0)) x tt r h) (order.le_trans (fin true 709 (pos 0)) (fin false 0 (pos 0)) x tt (order.le_of_not_lt x (fin false 0 (pos 0)) r tt k))

-- 708 * c is below 1022.375, and 709 * c below 1023.375
pub product-neg : (x : Float) → Within (fin false 177 (pos 2)) x → Within (fin false 8179 (negsuc 2)) (mul binary64 x log2e)
unfolding mul le of_bits
product-neg x w = mul_in binary64 (fin false 177 (pos 2)) log2e (fin false 8179 (negsuc 2)) x log2e tt w tt

pub product-pos : (x : Float) → Within (fin false 709 (pos 0)) x → Within (fin false 8187 (negsuc 2)) (mul binary64 x log2e)
unfolding mul le of_bits
product-pos x w = mul_in binary64 (fin false 709 (pos 0)) log2e (fin false 8187 (negsuc 2)) x log2e tt w tt

pub k-neg : (x : Float) → Within (fin false 177 (pos 2)) x → nearest_of (mul binary64 x log2e) ≤ 1022
k-neg x w = nearest-at-most 1022 (mul binary64 x log2e) (product-neg x w)

pub k-pos : (x : Float) → Within (fin false 709 (pos 0)) x → nearest_of (mul binary64 x log2e) ≤ 1023
k-pos x w = nearest-at-most 1023 (mul binary64 x log2e) (product-pos x w)

pub asked-neg : (x : Float) → Within (fin false 177 (pos 2)) x → Within (fin false 1 (pos 60)) (mul binary64 x log2e)
unfolding le
asked-neg x w = widen (fin false 8179 (negsuc 2)) (fin false 1 (pos 60)) (mul binary64 x log2e) tt (product-neg x w)

pub asked-pos : (x : Float) → Within (fin false 709 (pos 0)) x → Within (fin false 1 (pos 60)) (mul binary64 x log2e)
unfolding le
asked-pos x w = widen (fin false 8187 (negsuc 2)) (fin false 1 (pos 60)) (mul binary64 x log2e) tt (product-pos x w)

-- ---- the exponent
pub up_by : (n : ℕ) → minus (1023 + n) 1023 ≡ pos n
up_by n = go (leb 1023 (1023 + n)) (nleb→lt 1023 (1023 + n))
  where
    go : (b : Bool) → (T (not b) → 1023 + n < 1023) → cond b (pos (1023 + n - 1023)) (negsuc (1023 - suc (1023 + n))) ≡ pos n
    go true h = ap pos (omega arith)
    go false h = let l = h tt in absurd (omega arith)

pub down_by : (n : ℕ) → n ≤ 1022 → minus (1023 - n) 1023 ≡ neg_ℤ (pos n)
down_by zero l = refl
down_by (suc n) l = go (leb 1023 (1023 - suc n)) (leb→le 1023 (1023 - suc n))
  where
    go : (b : Bool) → (T b → 1023 ≤ 1023 - suc n) → cond b (pos (1023 - suc n - 1023)) (negsuc (1023 - suc (1023 - suc n))) ≡ negsuc n
    go true h = let l = h tt in absurd (omega arith)
    go false h = ap negsuc (omega arith)

-- ---- k, by the sign of x × log2e, which is that of x
k-negative : (t : Float) → T (finite t) → negative t ≡ true → (neg (of_int binary64 (pos (nearest_of t))) ≡ round_of t) × (neg_ℤ (pos (nearest_of t)) ≡ whole_of t)
unfolding round_of whole_of of_int
k-negative nan F s = absurd F
k-negative (inf s) F e = absurd F
k-negative (fin true m e) F s = (neg-round binary64 (nearest_of (fin true m e)) 1, refl)
k-negative (fin false m e) F s = absurd (true≢false (sym s))

k-positive : (t : Float) → T (finite t) → negative t ≡ false → (of_int binary64 (pos (nearest_of t)) ≡ round_of t) × (pos (nearest_of t) ≡ whole_of t)
unfolding round_of whole_of of_int
k-positive nan F s = absurd F
k-positive (inf s) F e = absurd F
k-positive (fin true m e) F s = absurd (true≢false s)
k-positive (fin false m e) F s = (refl, refl)

pub product-sign : (s : Bool) (m : ℕ) (e : ℤ) → negative (mul binary64 (fin s m e) log2e) ≡ s
unfolding mul of_bits
product-sign true m e = negative-round binary64 true (m * up e * 3248660424278399) (down e * 2251799813685248)
product-sign false m e = negative-round binary64 false (m * up e * 3248660424278399) (down e * 2251799813685248)

-- ---- the answer, from what the calls give
below-zero-sign : (x : Float) → T (finite x) → T (lt x (of_bits binary64 0)) → negative (mul binary64 x log2e) ≡ true
below-zero-sign nan F h = absurd F
below-zero-sign (inf s) F h = absurd F
below-zero-sign (fin s m e) F h = product-sign s m e ∙ lt-zero s m e h

-- what is not below zero has the plus sign, or is -0
from-zero-sign : (x : Float) → T (fits binary64 x) → T (finite x) → T (not (lt x (of_bits binary64 0))) → (negative (mul binary64 x log2e) ≡ false) ⊎ (x ≡ fin true 0 (pos 0))
from-zero-sign nan f F h = absurd F
from-zero-sign (inf s) f F h = absurd F
from-zero-sign (fin false m e) f F h = inl (product-sign false m e)
from-zero-sign (fin true zero e) f F h = inr (ap (λ (z : ℤ). fin true 0 z) (zero_exponent true e f))
from-zero-sign (fin true (suc m) e) f F h = absurd (elim (not-lt-zero true (suc m) e h) [ inl q ↦ true≢false q | inr z ↦ omega arith ])

abbrev n-of : Float → ℕ
n-of x = nearest_of (mul binary64 x log2e)

t-finite : (x : Float) → Within (fin false 709 (pos 0)) x → T (finite (mul binary64 x log2e))
t-finite x w = within-finite (fin false 8187 (negsuc 2)) (mul binary64 x log2e) tt (product-pos x w)

joined : (x h q r k : Float) (z : ℤ) → h ≡ horner_of 13 r one → r ≡ reduced_of x k → q ≡ fin false 1 z → k ≡ round_of (mul binary64 x log2e) → z ≡ whole_of (mul binary64 x log2e) → mul binary64 h q ≡ scaled_of x (mul binary64 x log2e)
unfolding scaled_of
joined x h q r k z eh er eq ek ez = λ i. mul binary64 ((eh ∙ ap (λ y. horner_of 13 y one) (er ∙ ap (reduced_of x) ek)) i) ((eq ∙ ap (λ y. fin false 1 y) ez) i)

pub scaled-neg : (x h q r : Float) (n : ℕ) → n ≡ n-of x → Within (fin false 709 (pos 0)) x → T (lt x (of_bits binary64 0)) → n ≤ 1022
    → h ≡ horner_of 13 r one → r ≡ reduced_of x (neg (of_int binary64 (pos n))) → q ≡ fin false 1 (minus (1023 - n) 1023) → mul binary64 h q ≡ scaled_of x (mul binary64 x log2e)
scaled-neg x h q r n e w b l eh er eq =
    let k = k-negative (mul binary64 x log2e) (t-finite x w) (below-zero-sign x (within-finite (fin false 709 (pos 0)) x tt w) b) in
    joined x h q r (neg (of_int binary64 (pos n))) (neg_ℤ (pos n)) eh er (eq ∙ ap (λ y. fin false 1 y) (down_by n l)) (ap (λ (j : ℕ). neg (of_int binary64 (pos j))) e ∙ k.0) (ap (λ (j : ℕ). neg_ℤ (pos j)) e ∙ k.1)

-- at -0 the code's k is +0 and the definition's -0, and the answer is 1 either way
at-minus-zero : (x : Float) (n : ℕ) → n ≡ n-of x → x ≡ fin true 0 (pos 0) → mul binary64 (horner_of 13 (reduced_of x (of_int binary64 (pos n))) one) (fin false 1 (pos n)) ≡ scaled_of x (mul binary64 x log2e)
at-minus-zero x n e z =
    ap (λ (j : ℕ). mul binary64 (horner_of 13 (reduced_of x (of_int binary64 (pos j))) one) (fin false 1 (pos j))) e
    ∙ subst (λ (y : Float). mul binary64 (horner_of 13 (reduced_of y (of_int binary64 (pos (n-of y)))) one) (fin false 1 (pos (n-of y))) ≡ scaled_of y (mul binary64 y log2e)) (sym z)
    (unfold mul add sub div neg of_int of_bits horner_of reduced_of nearest_of scaled_of round_of whole_of in refl)

pub scaled-pos : (x h q r : Float) (n : ℕ) → n ≡ n-of x → T (fits binary64 x) → Within (fin false 709 (pos 0)) x → T (not (lt x (of_bits binary64 0)))
    → h ≡ horner_of 13 r one → r ≡ reduced_of x (of_int binary64 (pos n)) → q ≡ fin false 1 (minus (1023 + n) 1023) → mul binary64 h q ≡ scaled_of x (mul binary64 x log2e)
scaled-pos x h q r n e f w b eh er eq =
    let z = eq ∙ ap (λ y. fin false 1 y) (up_by n) in
    elim (from-zero-sign x f (within-finite (fin false 709 (pos 0)) x tt w) b) [
      | inl s ↦ let k = k-positive (mul binary64 x log2e) (t-finite x w) s in joined x h q r (of_int binary64 (pos n)) (pos n) eh er z (ap (λ (j : ℕ). of_int binary64 (pos j)) e ∙ k.0) (ap pos e ∙ k.1)
      | inr g ↦ (λ i. mul binary64 ((eh ∙ ap (λ y. horner_of 13 y one) er) i) (z i)) ∙ at-minus-zero x n e g
    ]
