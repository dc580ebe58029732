-- The reduced argument of `exp` is at most 369/1024 in size. Assumes nothing.
use Rattle.std.proofs.Common.{◌≡◌, ℕ, ◌+◌, ◌-◌, ◌*◌, ◌/◌, ◌%◌, ◌^◌, ◌<◌, ◌≤◌, Bool, true, false, cond, not, T, ltb, ℤ, pos, negsuc, sym, refl, ap, ◌∙◌, subst, le_trans, le_of_eq, lt_of_lt_of_le, mul-le-mul_right, mod-lt, mul_assoc, mul_comm, add-mul, mul-lt-mul_of_pos_right, mul-pos, one-mul, div-add-mod', mul-one, mul-add, le_of_mul-le-mul_right, mul_left_comm, arith, lit≤, pow_pos, pow_mono, pow-add}
use native.Mathlib.Nat.{eq_of_mul-eq-mul_right}
use lib.Ieee.{Float, nan, inf, fin, binary64, up, down, unlike, round, sum, add, sub, mul, neg, le, of_bits}
use lib.Ieee.Fits.{down_pos}
use lib.Ieee.Exact.{HasValue, round_exact}
use lib.Ieee.Back.{round_whole}
use lib.Ieee.Order.{round_mono}
use lib.Ieee.Scale.{finite}
use lib.Ieee.Positive.{num, den, den_pos}
use Rattle.arith.specs.Bounds.{Within, abs, negative}
use Rattle.arith.proofs.Within.{abs-round, cross, mul_in, sub_in, within-finite}
use Rattle.arith.specs.Rounding.{nearest_of, round_of}
use Rattle.arith.specs.Ln2.{H, L}
use Rattle.exponential.specs.Exp.{reduced_of, log2e}
use Rattle.arith.proofs.Mono.{unlike-plus}
use Rattle.arith.proofs.HalfUnit.{half-unit}
use Rattle.arith.proofs.Nearest.{nearest-at-most}
use Rattle.exponential.proofs.ExpRange.{product-pos, product-sign}

-- ---- the whole number nearest to t, by t's own fraction
nearest-is : (t : Float) → T (finite t) → nearest_of t ≡ (2 * num (abs t) + den (abs t)) / (2 * den (abs t))
unfolding nearest_of
nearest-is (fin s m e) F = refl
nearest-is nan F = elim F [ ]
nearest-is (inf _) F = elim F [ ]

half-off : (G w : ℕ) → 0 < w → (2 * ((2 * G + w) / (2 * w) * w) ≤ 2 * G + w) × (2 * G ≤ 2 * ((2 * G + w) / (2 * w) * w) + w)
half-off G w P = go ((2 * G + w) / (2 * w)) ((2 * G + w) % (2 * w)) (div-add-mod' (2 * G + w) (2 * w)) (mod-lt (2 * G + w) (mul-pos (pow_pos 1) P))
  where
    go : (q r : ℕ) → q * (2 * w) + r ≡ 2 * G + w → r < 2 * w → (2 * (q * w) ≤ 2 * G + w) × (2 * G ≤ 2 * (q * w) + w)
    go q r e l = let a : q * (2 * w) ≡ 2 * (q * w) = mul_left_comm q 2 w in (omega arith, omega arith)

-- ---- n0 / d0, below 1024, rounded is off by 2 ^ -21 at most (and by less), so n is within 1/2 + 2 ^ -21 of it
loose : (x y z : ℕ) → x * 2 ^ 54 ≤ y * 2 ^ 54 + 2 ^ 10 * z → 2 * x * 2 ^ 20 ≤ 2 * y * 2 ^ 20 + z
loose x y z h = omega arith

star : (n0 d0 G n w : ℕ) → 0 < w
    → 2 * (G * d0) * 2 ^ 20 ≤ 2 * (n0 * w) * 2 ^ 20 + d0 * w → 2 * (n0 * w) * 2 ^ 20 ≤ 2 * (G * d0) * 2 ^ 20 + d0 * w
    → 2 * (n * w) ≤ 2 * G + w → 2 * G ≤ 2 * (n * w) + w
    → (2 * (n * d0) * 2 ^ 20 ≤ 2 * n0 * 2 ^ 20 + d0 * (2 ^ 20 + 1)) × (2 * n0 * 2 ^ 20 ≤ 2 * (n * d0) * 2 ^ 20 + d0 * (2 ^ 20 + 1))
star n0 d0 G n w P e1 e2 h1 h2 =
    let f1 : 2 * (n * w * d0) ≤ 2 * (G * d0) + w * d0 = spread (n * w) G w h1 in
    let f2 : 2 * (G * d0) ≤ 2 * (n * w * d0) + w * d0 = spread G (n * w) w h2 in
    let a : (2 * (n * d0) * 2 ^ 20) * w ≡ 2 * (n * w * d0) * 2 ^ 20 = simp (mul_assoc, mul_comm, mul_left_comm) in
    let b : (2 * n0 * 2 ^ 20 + d0 * (2 ^ 20 + 1)) * w ≡ 2 * (n0 * w) * 2 ^ 20 + d0 * w * (2 ^ 20 + 1) = simp (add-mul, mul-add, mul_assoc, mul_comm, mul_left_comm, mul-one, one-mul) in
    let a' : (2 * n0 * 2 ^ 20) * w ≡ 2 * (n0 * w) * 2 ^ 20 = simp (mul_assoc, mul_comm, mul_left_comm) in
    let b' : (2 * (n * d0) * 2 ^ 20 + d0 * (2 ^ 20 + 1)) * w ≡ 2 * (n * w * d0) * 2 ^ 20 + d0 * w * (2 ^ 20 + 1) = simp (add-mul, mul-add, mul_assoc, mul_comm, mul_left_comm, mul-one, one-mul) in
    let c : w * d0 ≡ d0 * w = mul_comm w d0 in (
      le_of_mul-le-mul_right (le_trans (le_of_eq a) (le_trans (go (n * w * d0) (G * d0) (n0 * w) (d0 * w) (subst (λ (x : ℕ). 2 * (n * w * d0) ≤ 2 * (G * d0) + x) c f1) e1) (le_of_eq (sym b)))) P,
      le_of_mul-le-mul_right (le_trans (le_of_eq a') (le_trans (go' (n * w * d0) (G * d0) (n0 * w) (d0 * w) (subst (λ (x : ℕ). 2 * (G * d0) ≤ 2 * (n * w * d0) + x) c f2) e2) (le_of_eq (sym b')))) P,
    )
  where
    spread : (x y z : ℕ) → 2 * x ≤ 2 * y + z → 2 * (x * d0) ≤ 2 * (y * d0) + z * d0
    spread x y z h = le_trans (le_of_eq (sym (mul_assoc 2 x d0))) (le_trans (mul-le-mul_right d0 h) (le_of_eq (add-mul (2 * y) z d0 ∙ ap (λ (k : ℕ). k + z * d0) (mul_assoc 2 y d0))))

    go : (x g y v : ℕ) → 2 * x ≤ 2 * g + v → 2 * g * 2 ^ 20 ≤ 2 * y * 2 ^ 20 + v → 2 * x * 2 ^ 20 ≤ 2 * y * 2 ^ 20 + v * (2 ^ 20 + 1)
    go x g y v k l = omega arith

    go' : (x g y v : ℕ) → 2 * g ≤ 2 * x + v → 2 * y * 2 ^ 20 ≤ 2 * g * 2 ^ 20 + v → 2 * y * 2 ^ 20 ≤ 2 * x * 2 ^ 20 + v * (2 ^ 20 + 1)
    go' x g y v k l = omega arith

-- ---- A / p is within 355/1024 of n * H
-- the same with a shorter constant
coarse-low : (A p q : ℕ) → 2 * (q * 2251799813685248) * 1048576 ≤ 2 * (A * 3248660424278399) * 1048576 + p * 2251799813685248 * 1048577 → q * 16777216 ≤ A * 24204407 + p * 8388616
coarse-low A p q h = omega arith

coarse-high : (A p q : ℕ) → 2 * (A * 3248660424278399) * 1048576 ≤ 2 * (q * 2251799813685248) * 1048576 + p * 2251799813685248 * 1048577 → A * 24204406 ≤ q * 16777216 + p * 8388616
coarse-high A p q h = omega arith

gap-low : (A p q : ℕ) → q ≤ 1023 * p → A * 24204406 ≤ q * 16777216 + p * 8388616 → A * 4294967296 * 1024 ≤ q * 2977044471 * 1024 + 355 * p * 4294967296
gap-low A p q s h = omega arith

gap-high : (A p q : ℕ) → q ≤ 1023 * p → q * 16777216 ≤ A * 24204407 + p * 8388616 → q * 2977044471 * 1024 ≤ A * 4294967296 * 1024 + 355 * p * 4294967296
gap-high A p q s h = omega arith

-- ---- k * H is exact
abbrev kf : Bool → ℕ → Float
kf s n = round binary64 s n 1

-- a value w of the sign s with size n * h / 2 ^ 32
abbrev IsKH : Float → Bool → ℕ → Type 0
IsKH nan s n = ⊥
IsKH (inf t) s n = ⊥
IsKH (fin t m e) s n = (t ≡ s) × (m * up e * 4294967296 ≡ n * 2977044471 * down e)

from-value : (w : Float) (s : Bool) (K d n : ℕ) → 0 < d → K ≡ n * d → HasValue w s (K * 2977044471) (d * 4294967296) → IsKH w s n
from-value nan s K d n D e v = absurd v
from-value (inf t) s K d n D e v = absurd v
from-value (fin t m g) s K d n D e v = (
  v.0,
  eq_of_mul-eq-mul_right d D (m * up g * 4294967296) (n * 2977044471 * down g)
      (mul_assoc (m * up g) 4294967296 d ∙ ap (λ (x : ℕ). m * up g * x) (mul_comm 4294967296 d) ∙ v.1 ∙ ap (λ (x : ℕ). x * 2977044471 * down g) e ∙ rearrange n d (down g)),
)
  where
    rearrange : (n d g : ℕ) → n * d * 2977044471 * g ≡ n * 2977044471 * g * d
    rearrange n d g = simp (mul_assoc, mul_comm, mul_left_comm)

product : (s : Bool) (n : ℕ) (y : Float) → n ≤ 1023 → HasValue y s n 1 → IsKH (mul binary64 y H) s n
unfolding mul of_bits
product s n nan l v = absurd v
product s n (inf t) l v = absurd v
product s n (fin t m e) l v =
    let K = m * up e in
    let E : K ≡ n * down e = sym (mul-one K) ∙ v.1 in
    let q : n * 2977044471 < 2 ^ 53 = omega arith in
    subst (λ (u : Bool). IsKH (round binary64 u (K * (2977044471 * 1)) (down e * 4294967296)) s n) (sym (unlike-plus t))
    (subst (λ (u : Bool). IsKH (round binary64 u (K * 2977044471) (down e * 4294967296)) s n) (sym v.0)
    (from-value (round binary64 s (K * 2977044471) (down e * 4294967296)) s K (down e) n (down_pos e) E
    (round_exact binary64 s (K * 2977044471) (down e * 4294967296) (n * 2977044471) 1042 (mul-pos (down_pos e) (pow_pos 32)) q
    (lt_of_lt_of_le (mul-lt-mul_of_pos_right q (pow_pos 1042)) (le_trans (le_of_eq (sym (pow-add 2 53 1042))) (pow_mono {i = 1095} {j = 2098} (lit≤ tt))))
    (ap (λ (x : ℕ). x * 2977044471 * 2 ^ 1074) E ∙ spread n (down e) (2 ^ 1042)))))
  where
    spread : (n d w : ℕ) → n * d * 2977044471 * (w * 4294967296) ≡ n * 2977044471 * w * (d * 4294967296)
    spread n d w = simp (mul_assoc, mul_comm, mul_left_comm)

-- ---- x - k * H
cut_down : (a b c : ℕ) → a * 1024 ≤ b * 1024 + 355 * c → (a - b) * 1024 ≤ 355 * c
cut_down a b c h = omega arith

bound-355 : round binary64 false 355 1024 ≡ fin false 355 (negsuc 9)
unfolding round
bound-355 = refl

near-round : (u : Bool) (d c : ℕ) → 0 < c → d * 1024 ≤ 355 * c → Within (fin false 355 (negsuc 9)) (round binary64 u d c)
near-round u d c C h =
    subst (λ (z : Float). T (le (abs (round binary64 u d c)) z)) bound-355
    (subst (λ (z : Float). T (le z (round binary64 false 355 1024))) (sym (abs-round binary64 u d c)) (round_mono binary64 d c 355 1024 C (pow_pos 10) h))

sum_near : (s : Bool) (a b c : ℕ) → 0 < c → a * 1024 ≤ b * 1024 + 355 * c → b * 1024 ≤ a * 1024 + 355 * c → Within (fin false 355 (negsuc 9)) (sum binary64 s a (not s) b c)
unfolding sum
sum_near true a b c C h k = go (ltb a b)
  where
    go : (t : Bool) → Within (fin false 355 (negsuc 9)) (cond t (round binary64 false (b - a) c) (round binary64 (ltb b a) (a - b) c))
    go true = near-round false (b - a) c C (cut_down b a c k)
    go false = near-round (ltb b a) (a - b) c C (cut_down a b c h)
sum_near false a b c C h k = go (ltb a b)
  where
    go : (t : Bool) → Within (fin false 355 (negsuc 9)) (cond t (round binary64 true (b - a) c) (round binary64 false (a - b) c))
    go true = near-round true (b - a) c C (cut_down b a c k)
    go false = near-round false (a - b) c C (cut_down a b c h)

-- with w's fraction Nw / dw for n * h / 2 ^ 32
carry : (A p q n Nw dw : ℕ) → q ≡ n * p → Nw * 4294967296 ≡ n * 2977044471 * dw
    → A * 4294967296 * 1024 ≤ q * 2977044471 * 1024 + 355 * p * 4294967296 → A * dw * 1024 ≤ Nw * p * 1024 + 355 * (p * dw)
carry A p q n Nw dw e v h =
    let m = mul-le-mul_right dw h in
    let a : A * 4294967296 * 1024 * dw ≡ A * dw * (4294967296 * 1024) = simp (mul_assoc, mul_comm, mul_left_comm) in
    let b : (q * 2977044471 * 1024 + 355 * p * 4294967296) * dw ≡ p * (n * 2977044471 * dw) * 1024 + 355 * (p * dw) * 4294967296 = ap (λ (x : ℕ). (x * 2977044471 * 1024 + 355 * p * 4294967296) * dw) e ∙ simp (add-mul, mul_assoc, mul_comm, mul_left_comm) in
    let c : p * (n * 2977044471 * dw) ≡ Nw * p * 4294967296 = ap (λ (x : ℕ). p * x) (sym v) ∙ simp (mul_assoc, mul_comm, mul_left_comm) in
    last (A * dw) (Nw * p) (p * dw) (le_trans (le_of_eq (sym a)) (le_trans m (le_of_eq (b ∙ ap (λ (x : ℕ). x * 1024 + 355 * (p * dw) * 4294967296) c))))
  where
    last : (x y z : ℕ) → x * (4294967296 * 1024) ≤ y * 4294967296 * 1024 + 355 * z * 4294967296 → x * 1024 ≤ y * 1024 + 355 * z
    last x y z k = omega arith

carry' : (A p q n Nw dw : ℕ) → q ≡ n * p → Nw * 4294967296 ≡ n * 2977044471 * dw
    → q * 2977044471 * 1024 ≤ A * 4294967296 * 1024 + 355 * p * 4294967296 → Nw * p * 1024 ≤ A * dw * 1024 + 355 * (p * dw)
carry' A p q n Nw dw e v h =
    let m = mul-le-mul_right dw h in
    let a : (A * 4294967296 * 1024 + 355 * p * 4294967296) * dw ≡ A * dw * 4294967296 * 1024 + 355 * (p * dw) * 4294967296 = simp (add-mul, mul_assoc, mul_comm, mul_left_comm) in
    let b : q * 2977044471 * 1024 * dw ≡ p * (n * 2977044471 * dw) * 1024 = ap (λ (x : ℕ). x * 2977044471 * 1024 * dw) e ∙ simp (mul_assoc, mul_comm, mul_left_comm) in
    let c : p * (n * 2977044471 * dw) ≡ Nw * p * 4294967296 = ap (λ (x : ℕ). p * x) (sym v) ∙ simp (mul_assoc, mul_comm, mul_left_comm) in
    last (A * dw) (Nw * p) (p * dw) (le_trans (le_of_eq (sym (b ∙ ap (λ (x : ℕ). x * 1024) c))) (le_trans m (le_of_eq a)))
  where
    last : (x y z : ℕ) → y * 4294967296 * 1024 ≤ x * 4294967296 * 1024 + 355 * z * 4294967296 → y * 1024 ≤ x * 1024 + 355 * z
    last x y z k = omega arith

first_step : (s : Bool) (m : ℕ) (e : ℤ) (w : Float) (n : ℕ) → IsKH w s n
    → m * up e * 4294967296 * 1024 ≤ n * down e * 2977044471 * 1024 + 355 * down e * 4294967296
    → n * down e * 2977044471 * 1024 ≤ m * up e * 4294967296 * 1024 + 355 * down e * 4294967296
    → Within (fin false 355 (negsuc 9)) (sub binary64 (fin s m e) w)
unfolding sub add neg
first_step s m e nan n k h g = absurd k
first_step s m e (inf t) n k h g = absurd k
first_step s m e (fin t mw ew) n k h g =
    subst (λ (u : Bool). Within (fin false 355 (negsuc 9)) (sum binary64 s (m * up e * down ew) (not u) (mw * up ew * down e) (down e * down ew))) (sym k.0)
    (sum_near s (m * up e * down ew) (mw * up ew * down e) (down e * down ew) (mul-pos (down_pos e) (down_pos ew))
    (carry (m * up e) (down e) (n * down e) n (mw * up ew) (down ew) refl k.1 h)
    (carry' (m * up e) (down e) (n * down e) n (mw * up ew) (down ew) refl k.1 g))

-- ---- all together
abs-finite : (t : Float) → T (finite t) → T (finite (abs t))
abs-finite nan F = F
abs-finite (inf s) F = F
abs-finite (fin s m e) F = tt

k-small : (s : Bool) (n : ℕ) → n ≤ 1023 → Within (fin false 1023 (pos 0)) (kf s n)
k-small s n l =
    subst (λ (z : Float). T (le (abs (kf s n)) z)) at
    (subst (λ (z : Float). T (le z (round binary64 false 1023 1))) (sym (abs-round binary64 s n 1)) (round_mono binary64 n 1 1023 1 (pow_pos 0) (pow_pos 0) (mul-le-mul_right 1 l)))
  where
    at : round binary64 false 1023 1 ≡ fin false 1023 (pos 0)
    at = unfold round in refl

widths : (A p : ℕ) → 0 < p → A ≤ 709 * p → A * 3248660424278399 < 1024 * (p * 2251799813685248)
widths A p P h = omega arith

round_is : (t : Float) → T (finite t) → round binary64 (negative t) (nearest_of t) 1 ≡ round_of t
unfolding round_of
round_is nan F = absurd F
round_is (inf s) F = absurd F
round_is (fin s m e) F = refl

pub remainder : (x : Float) → Within (fin false 709 (pos 0)) x → Within (fin false 369 (negsuc 9)) (reduced_of x (round_of (mul binary64 x log2e)))
unfolding le
remainder nan w = absurd w
remainder (inf s) w = absurd w
remainder (fin s m e) w =
    let A = m * up e in
    let p = down e in
    let n0 = A * 3248660424278399 in
    let d0 = p * 2251799813685248 in
    let t = mul binary64 (fin s m e) log2e in
    let D : 0 < d0 = mul-pos (down_pos e) (pow_pos 51) in
    let xs : A ≤ 709 * p = le_trans (le_of_eq (sym (mul-one A))) (cross m e 709 (pos 0) w) in
    let small : n0 < 1024 * d0 = widths A p (down_pos e) xs in
    let wt = product-pos (fin s m e) w in
    let n = nearest_of t in
    let l : n ≤ 1023 = nearest-at-most 1023 t wt in
    let at : abs t ≡ round binary64 false n0 d0 = mul-abs s m e in
    let F = within-finite (fin false 8187 (negsuc 2)) t tt wt in
    let G = num (abs t) in
    let W = den (abs t) in
    let er = half-unit 10 n0 d0 D small (abs t) at (abs-finite t F) in
    let ho = half-off G W (den_pos (abs t)) in
    let nn = nearest-is t F in
    let st = star n0 d0 G n W (den_pos (abs t)) (loose (G * d0) (n0 * W) (d0 * W) er.0) (loose (n0 * W) (G * d0) (d0 * W) er.1) (subst (λ (k : ℕ). 2 * (k * W) ≤ 2 * G + W) (sym nn) ho.0) (subst (λ (k : ℕ). 2 * G ≤ 2 * (k * W) + W) (sym nn) ho.1) in
    let q = n * p in
    let qe : n * d0 ≡ q * 2251799813685248 = sym (mul_assoc n p 2251799813685248) in
    let ql : q ≤ 1023 * p = mul-le-mul_right p l in
    let lo = gap-low A p q ql (coarse-high A p q (shape-high A p q (n * d0) qe st.1)) in
    let hi = gap-high A p q ql (coarse-low A p q (shape-low A p q (n * d0) qe st.0)) in
    subst (λ (k : Float). Within (fin false 369 (negsuc 9)) (reduced_of (fin s m e) k)) (ap (λ (u : Bool). round binary64 u n 1) (sym (product-sign s m e)) ∙ round_is t F)
    (finish (fin s m e) s n l (first_step s m e (mul binary64 (kf s n) H) n (product s n (kf s n) l (round_whole binary64 s n (le_trans l (lit≤ tt)))) lo hi))
  where
    mul-abs : (s : Bool) (m : ℕ) (e : ℤ) → abs (mul binary64 (fin s m e) log2e) ≡ round binary64 false (m * up e * 3248660424278399) (down e * 2251799813685248)
    mul-abs s m e = unfold mul of_bits in abs-round binary64 (unlike s false) (m * up e * 3248660424278399) (down e * 2251799813685248)

    shape-low : (A p q z : ℕ) → z ≡ q * 2251799813685248 → 2 * z * 2 ^ 20 ≤ 2 * (A * 3248660424278399) * 2 ^ 20 + p * 2251799813685248 * (2 ^ 20 + 1)
        → 2 * (q * 2251799813685248) * 1048576 ≤ 2 * (A * 3248660424278399) * 1048576 + p * 2251799813685248 * 1048577
    shape-low A p q z e h = subst (λ (k : ℕ). 2 * k * 1048576 ≤ 2 * (A * 3248660424278399) * 1048576 + p * 2251799813685248 * 1048577) e h

    shape-high : (A p q z : ℕ) → z ≡ q * 2251799813685248 → 2 * (A * 3248660424278399) * 2 ^ 20 ≤ 2 * z * 2 ^ 20 + p * 2251799813685248 * (2 ^ 20 + 1)
        → 2 * (A * 3248660424278399) * 1048576 ≤ 2 * (q * 2251799813685248) * 1048576 + p * 2251799813685248 * 1048577
    shape-high A p q z e h = subst (λ (k : ℕ). 2 * (A * 3248660424278399) * 1048576 ≤ 2 * k * 1048576 + p * 2251799813685248 * 1048577) e h

    finish : (x : Float) (s : Bool) (n : ℕ) → n ≤ 1023 → Within (fin false 355 (negsuc 9)) (sub binary64 x (mul binary64 (kf s n) H)) → Within (fin false 369 (negsuc 9)) (reduced_of x (kf s n))
    finish x s n l w =
        unfold reduced_of in
        sub_in binary64 (fin false 355 (negsuc 9)) (fin false 1 (negsuc 9)) (fin false 369 (negsuc 9)) (sub binary64 x (mul binary64 (kf s n) H)) (mul binary64 (kf s n) L) (unfold add le in tt) w
        (mul_in binary64 (fin false 1023 (pos 0)) (fin false 1 (negsuc 30)) (fin false 1 (negsuc 9)) (kf s n) L (unfold mul le in tt) (k-small s n l) (unfold le of_bits in tt))
