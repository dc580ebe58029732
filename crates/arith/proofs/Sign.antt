-- A product and a quotient have the sign that the rule of signs says, zeros included: `Sign false x` is 0 ≤ x, and `Sign true x` is x ≤ 0. Assumes nothing.
use Rattle.std.proofs.Common.{◌≡◌, ℕ, zero, suc, ◌*◌, ◌<◌, Bool, true, false, T, ◌⊎◌, ℤ, pos, sym, refl, ap, ◌∙◌, subst, inl, inr, lt_irrefl, zero-lt-suc, mul-pos, mul-zero, zero-mul, arith}
use lib.Dec.{eqb-suc-zero}
use lib.Ieee.{Float, nan, inf, fin, binary64, up, down, unlike, round, mul, div, le, lt, of_bits}
use lib.Ieee.Fits.{up_pos, down_pos}
use lib.Ieee.Scale.{finite}
use Rattle.arith.specs.Bounds.{Sign}
use Rattle.arith.proofs.Order.{LeS, le→, →le}
use Rattle.arith.proofs.Zero.{no-digits, zero-lt}
use Rattle.arith.proofs.Mono.{round-signed, zero-round, not-less, unlike-plus}

-- ---- the sign of a finite value is its sign bit, but for a zero
pub bit-of : (s a : Bool) (m : ℕ) (e : ℤ) → Sign s (fin a m e) → (a ≡ s) ⊎ (m ≡ 0)
unfolding le of_bits
bit-of false false m e h = inl refl
bit-of true true m e h = inl refl
bit-of false true m e h = inr (no-digits m e (let k = le→ false (0 * 1 * down e) true (m * up e * 1) h in omega arith))
bit-of true false m e h = inr (no-digits m e (let k = le→ false (m * up e * 1) false (0 * 1 * down e) h in omega arith))

pub zero-sign : (s a : Bool) (e : ℤ) → Sign s (fin a 0 e)
unfolding le of_bits
zero-sign false a e = →le false (0 * 1 * down e) a (0 * up e * 1) (go a)
  where
    go : (a : Bool) → LeS false (0 * 1 * down e) a (0 * up e * 1)
    go true = omega arith
    go false = omega arith
zero-sign true a e = →le a (0 * up e * 1) false (0 * 1 * down e) (go a)
  where
    go : (a : Bool) → LeS a (0 * up e * 1) false (0 * 1 * down e)
    go true = tt
    go false = omega arith

pub plus-sign : (m : ℕ) (e : ℤ) → Sign false (fin false m e)
unfolding le of_bits
plus-sign m e = →le false (0 * 1 * down e) false (m * up e * 1) (omega arith)

-- ---- rounding keeps the sign, and a zero has both
pub sign-round : (s : Bool) (n d : ℕ) → 0 < d → Sign s (round binary64 s n d)
unfolding of_bits
sign-round false n d D = not-less n d D
sign-round true n d D = subst (λ (z : Float). T (le (round binary64 true n d) z)) (zero-round false 0 1 (zero-lt-suc 0) refl) (round-signed true n d false 0 1 D (zero-lt-suc 0) tt)

both : (s a : Bool) → Sign s (fin a 0 (pos 0))
unfolding le of_bits
both true true = tt
both true false = tt
both false true = tt
both false false = tt

sign_zero : (s a : Bool) (n d : ℕ) → 0 < d → n ≡ 0 → Sign s (round binary64 a n d)
sign_zero s a n d D z = subst (λ (x : Float). Sign s x) (sym (zero-round a n d D z)) (both s a)

-- ---- products and quotients
nil-left : (m u n : ℕ) → m ≡ 0 → m * u * n ≡ 0
nil-left m u n z = ap (λ (k : ℕ). k * u * n) z ∙ ap (λ (k : ℕ). k * n) (zero-mul u) ∙ zero-mul n

pub mul-sign : (s t : Bool) (x y : Float) → T (finite x) → T (finite y) → Sign s x → Sign t y → Sign (unlike s t) (mul binary64 x y)
unfolding mul
mul-sign s t nan y F G p q = absurd F
mul-sign s t (inf a) y F G p q = absurd F
mul-sign s t (fin a m e) nan F G p q = absurd G
mul-sign s t (fin a m e) (inf b) F G p q = absurd G
mul-sign s t (fin a m e) (fin b n d) F G p q = go (bit-of s a m e p) (bit-of t b n d q)
  where
    D : 0 < down e * down d
    D = mul-pos (down_pos e) (down_pos d)

    go : (a ≡ s) ⊎ (m ≡ 0) → (b ≡ t) ⊎ (n ≡ 0) → Sign (unlike s t) (round binary64 (unlike a b) (m * up e * (n * up d)) (down e * down d))
    go (inl i) (inl j) = subst (λ (u : Bool). Sign (unlike s t) (round binary64 u (m * up e * (n * up d)) (down e * down d))) (sym (λ k. unlike (i k) (j k))) (sign-round (unlike s t) (m * up e * (n * up d)) (down e * down d) D)
    go (inl i) (inr z) = sign_zero (unlike s t) (unlike a b) (m * up e * (n * up d)) (down e * down d) D (ap (λ (k : ℕ). m * up e * (k * up d)) z ∙ ap (λ (k : ℕ). m * up e * k) (zero-mul (up d)) ∙ mul-zero (m * up e))
    go (inr z) j = sign_zero (unlike s t) (unlike a b) (m * up e * (n * up d)) (down e * down d) D (nil-left m (up e) (n * up d) z)

-- by a positive divisor
pub div-sign : (s : Bool) (x y : Float) → T (finite x) → T (finite y) → Sign s x → T (lt (of_bits binary64 0) y) → Sign s (div binary64 x y)
unfolding div lt of_bits
div-sign s nan y F G p q = absurd F
div-sign s (inf a) y F G p q = absurd F
div-sign s (fin a m e) nan F G p q = absurd G
div-sign s (fin a m e) (inf b) F G p q = absurd G
div-sign s (fin a m e) (fin true n d) F G p q = absurd q
div-sign s (fin a m e) (fin false zero d) F G p q = absurd (lt_irrefl 0 (zero-lt false 0 d (unfold lt of_bits in q)).1)
div-sign s (fin a m e) (fin false (suc n) d) F G p q =
    rw (eqb-suc-zero n, unlike-plus a) (go (bit-of s a m e p))
  where
    D : 0 < suc n * up d * down e
    D = mul-pos (mul-pos (zero-lt-suc n) (up_pos d)) (down_pos e)

    go : (a ≡ s) ⊎ (m ≡ 0) → Sign s (round binary64 a (m * up e * down d) (suc n * up d * down e))
    go (inl i) = subst (λ (u : Bool). Sign s (round binary64 u (m * up e * down d) (suc n * up d * down e))) (sym i) (sign-round s (m * up e * down d) (suc n * up d * down e) D)
    go (inr z) = sign_zero s a (m * up e * down d) (suc n * up d * down e) D (nil-left m (up e) (down d) z)
