-- Twice a value that fits is exact, and half of its whole part, with one added, is the nearest whole number. Assumes nothing.
use Rattle.std.proofs.Common.{◌≡◌, ℕ, zero, suc, ◌+◌, ◌-◌, ◌*◌, ◌/◌, ◌%◌, ◌^◌, ◌<◌, ◌≤◌, min, Bool, true, false, ◌&&◌, T, eqb, ltb, leb, ℤ, pos, negsuc, sym, refl, ap, ◌∙◌, subst, le_trans, le_of_eq, le_of_suc-le-suc, lt_of_le_of_lt, mul-le-mul_right, zero-lt-suc, mul_assoc, suc-mul, mul_comm, div-lt_iff_lt-mul, add-mul, mul-pos, lt_of_not-le, zero-mul, mul-one, mul_right_comm, not-le_of_lt, le_of_mul-le-mul_right, mul_left_comm, arith, lit<, ltb→lt, lt→ltb, leb→le, pow_pos, pow-add}
use native.Mathlib.Nat.{pow-succ', div-div-eq-div-mul, add-div_right}
use lib.Pow.{pow-lt}
use lib.Ieee.{Float, nan, inf, fin, Format, binary64, prec, emax, low, up, down, round, sum, add, lt, le, fits, to_unsigned}
use lib.Ieee.Fits.{down_pos, and_l, and_r}
use lib.Ieee.Exact.{HasValue, round_exact}
use lib.Ieee.Nearest.{div_same}
use Rattle.arith.specs.Bounds.{abs, Within}
use Rattle.arith.proofs.Within.{cross, add-in}
use Rattle.arith.proofs.Order as order
use Rattle.arith.specs.Rounding.{nearest_of}

-- ---- a value that fits, in units of the format's smallest: its digits times a power of two
pow-cancel : (a l : ℕ) → 2 ^ a ≤ 2 ^ l → a ≤ l
pow-cancel a l h = le_of_suc-le-suc (lt_of_not-le (λ (g : suc l ≤ a). not-le_of_lt (pow-lt g) h))

split-pow : (l a : ℕ) → a ≤ l → 2 ^ (l - a) * 2 ^ a ≡ 2 ^ l
split-pow l a h = sym (pow-add 2 (l - a) a) ∙ ap (λ (x : ℕ). 2 ^ x) (let g : l - a + a ≡ l = omega arith in g)

on-grid : (l m : ℕ) (e : ℤ) → down e ≤ 2 ^ l → (j : ℕ) × (m * up e * 2 ^ l ≡ m * 2 ^ j * down e)
on-grid l m (pos a) h = (a + l, mul_assoc m (2 ^ a) (2 ^ l) ∙ ap (λ (x : ℕ). m * x) (sym (pow-add 2 a l)) ∙ sym (mul-one (m * 2 ^ (a + l))))
on-grid l m (negsuc a) h = (l - suc a, ap (λ (x : ℕ). x * 2 ^ l) (mul-one m) ∙ ap (λ (x : ℕ). m * x) (sym (split-pow l (suc a) (pow-cancel (suc a) l h))) ∙ sym (mul_assoc m (2 ^ (l - suc a)) (2 ^ suc a)))

pub grid-form : (f : Format) (s : Bool) (m : ℕ) (e : ℤ) → T (fits f (fin s m e)) → (m < 2 ^ prec f) × ((j : ℕ) × (m * up e * 2 ^ low f ≡ m * 2 ^ j * down e))
unfolding fits
grid-form f s zero e t = (pow_pos (prec f), (0, ap (λ (x : ℕ). x * 2 ^ low f) (zero-mul (up e)) ∙ zero-mul (2 ^ low f) ∙ sym (zero-mul (down e))))
grid-form f s (suc m) e t =
    let a = eqb (suc m % 2) 1 in
    let b = ltb (suc m) (2 ^ prec f) in
    let c = leb (down e) (2 ^ low f) in
    let u = and_l (a && b && c) (ltb (suc m * up e) (2 ^ suc (emax f) * down e)) t in
    (ltb→lt (suc m) (2 ^ prec f) (and_r a b (and_l (a && b) c u)), on-grid (low f) (suc m) e (leb→le (down e) (2 ^ low f) (and_r (a && b) c u)))

-- ---- twice a value
same_sign : (f : Format) (s : Bool) (a c : ℕ) → sum f s a s a c ≡ round f s (a + a) c
unfolding sum
same_sign f true a c = refl
same_sign f false a c = refl

twice : (a c l p d : ℕ) → a * l ≡ p * d → (a * d + a * d) * l ≡ p * 2 * (d * d)
twice a c l p d h =
    let g : a * d * l ≡ p * (d * d) = mul_right_comm a d l ∙ ap (λ (x : ℕ). x * d) h ∙ mul_assoc p d d in
    add-mul (a * d) (a * d) l ∙ ap (λ (x : ℕ). x + x) g ∙ (let k : p * (d * d) + p * (d * d) ≡ p * (d * d) * 2 = omega arith in k) ∙ mul_right_comm p (d * d) 2

-- at most 2 ^ 60, so twice it is far below the format's end
room : (m j : ℕ) (e : ℤ) → m * up e * 1 ≤ 1 * 2 ^ 60 * down e → m * up e * 2 ^ 1074 ≡ m * 2 ^ j * down e → m * 2 ^ suc j < 2 ^ (1074 + 1024)
room m j e w g =
    let a : m * 2 ^ j * down e ≤ 2 ^ 60 * 2 ^ 1074 * down e =
    le_trans (le_of_eq (sym g)) (le_trans (le_of_eq (ap (λ (x : ℕ). x * 2 ^ 1074) (sym (mul-one (m * up e))))) (le_trans (mul-le-mul_right (2 ^ 1074) w) (le_of_eq (mul_right_comm (1 * 2 ^ 60) (down e) (2 ^ 1074))))) in
    let b : m * 2 ^ j ≤ 2 ^ 60 * 2 ^ 1074 = le_of_mul-le-mul_right a (down_pos e) in
    lt_of_le_of_lt (le_of_eq (ap (λ (x : ℕ). m * x) (pow-succ' 2 j ∙ mul_comm 2 (2 ^ j)) ∙ sym (mul_assoc m (2 ^ j) 2))) (lt_of_le_of_lt (mul-le-mul_right 2 b) (lit< tt))

pub double : (s : Bool) (m : ℕ) (e : ℤ) → T (fits binary64 (fin s m e)) → Within (fin false 1 (pos 60)) (fin s m e)
    → HasValue (add binary64 (fin s m e) (fin s m e)) s (m * up e * down e + m * up e * down e) (down e * down e)
unfolding add
double s m e t w =
    let g = grid-form binary64 s m e t in
    let j = g.1.0 in
    let A = m * up e * down e in
    let D = down e * down e in
    subst (λ (x : Float). HasValue x s (A + A) D) (sym (same_sign binary64 s A D))
    (round_exact binary64 s (A + A) D m (suc j) (mul-pos (down_pos e) (down_pos e)) g.0 (room m j e (cross m e 1 (pos 60) w) g.1.1)
    (twice (m * up e) 1 (2 ^ 1074) (m * 2 ^ j) (down e) g.1.1 ∙ ap (λ (x : ℕ). x * D) (mul_assoc m (2 ^ j) 2 ∙ ap (λ (x : ℕ). m * x) (mul_comm (2 ^ j) 2 ∙ sym (pow-succ' 2 j)))))

-- ---- the whole part of a value's size
abbrev pub floor_of : Float → ℕ
floor_of nan = 0
floor_of (inf s) = 0
floor_of (fin s m e) = m * up e / down e

value-floor : (y : Float) (s : Bool) (a c : ℕ) → 0 < c → HasValue y s a c → floor_of y ≡ a / c
value-floor nan s a c C h = absurd h
value-floor (inf t) s a c C h = absurd h
value-floor (fin t m e) s a c C h = div_same (m * up e) (down e) a c (down_pos e) C h.1

one_more : (n d : ℕ) → 0 < d → (n + d) / d ≡ n / d + 1
one_more n d D = add-div_right n D

half_up : (n d : ℕ) → 0 < d → ((n * d + n * d) / (d * d) + 1) / 2 ≡ (2 * n + d) / (2 * d)
half_up n d D =
    let a : (n * d + n * d) / (d * d) ≡ 2 * n / d = div_same (n * d + n * d) (d * d) (2 * n) d (mul-pos D D) D
    (add-mul (n * d) (n * d) d ∙ ap (λ (x : ℕ). x + x) (mul_assoc n d d) ∙ (let k : n * (d * d) + n * (d * d) ≡ 2 * (n * (d * d)) = omega arith in k) ∙ sym (mul_assoc 2 n (d * d))) in
    ap (λ (x : ℕ). (x + 1) / 2) a ∙ ap (λ (x : ℕ). x / 2) (sym (one_more (2 * n) d D)) ∙ div-div-eq-div-mul (2 * n + d) d 2 ∙ ap (λ (x : ℕ). (2 * n + d) / x) (mul_comm d 2)

pub nearest-floor : (t : Float) → T (fits binary64 t) → Within (fin false 1 (pos 60)) t → (floor_of (add binary64 t t) + 1) / 2 ≡ nearest_of t
unfolding nearest_of le
nearest-floor nan f w = absurd w
nearest-floor (inf s) f w = absurd w
nearest-floor (fin s m e) f w =
    ap (λ (x : ℕ). (x + 1) / 2) (value-floor (add binary64 (fin s m e) (fin s m e)) s (m * up e * down e + m * up e * down e) (down e * down e) (mul-pos (down_pos e) (down_pos e)) (double s m e f w))
    ∙ half_up (m * up e) (down e) (down_pos e)

-- ---- the same, as the cast has it, for a value of at most 2 ^ 61 in size
cap : (a : ℕ) → a ≤ 2 ^ 61 → min a (2 ^ 64 - 1) ≡ a
cap a h = omega arith

pub floor-small : (y : Float) → Within (fin false 1 (pos 61)) y → floor_of y ≤ 2 ^ 61
unfolding le
floor-small nan w = absurd w
floor-small (inf s) w = absurd w
floor-small (fin s m e) w =
    le_of_suc-le-suc ((div-lt_iff_lt-mul (down_pos e)).1 (lt_of_le_of_lt (le_trans (le_of_eq (sym (mul-one (m * up e)))) (cross m e 1 (pos 61) w)) (more (down e) (down_pos e))))
  where
    more : (d : ℕ) → 0 < d → 1 * 2 ^ 61 * d < suc (2 ^ 61) * d
    more d D = omega arith

pub cut : (y : Float) → Within (fin false 1 (pos 61)) y → to_unsigned 64 (abs y) ≡ floor_of y
unfolding to_unsigned le
cut nan w = absurd w
cut (inf s) w = absurd w
cut (fin s m e) w = cap (m * up e / down e) (floor-small (fin s m e) w)

-- ---- what the cast asks
pub range : (y : Float) → Within (fin false 1 (pos 61)) y → T (lt (fin true 1 (pos 0)) (abs y)) × T (lt (abs y) (fin false 1 (pos 64)))
unfolding lt le
range nan w = absurd w
range (inf s) w = absurd w
range (fin s m e) w = (lt→ltb _ _ (let d = down_pos e in omega arith), order.lt_of_le_of_lt (fin false m e) (fin false 1 (pos 61)) (fin false 1 (pos 64)) w tt)

pub twice-within : (t : Float) → Within (fin false 1 (pos 60)) t → Within (fin false 1 (pos 61)) (add binary64 t t)
unfolding add le
twice-within t w = add-in binary64 (fin false 1 (pos 60)) (fin false 1 (pos 60)) (fin false 1 (pos 61)) t t tt w w

-- ---- up to k + 3/8 in size, the nearest whole number is k at most
pub nearest-at-most : (k : ℕ) (t : Float) → Within (fin false (8 * k + 3) (negsuc 2)) t → nearest_of t ≤ k
unfolding nearest_of le
nearest-at-most k nan w = absurd w
nearest-at-most k (inf s) w = absurd w
nearest-at-most k (fin s m e) w = le_of_suc-le-suc ((div-lt_iff_lt-mul (mul-pos (zero-lt-suc 1) (down_pos e))).1 (below (m * up e) (down e) (down_pos e) (cross m e (8 * k + 3) (negsuc 2) w)))
  where
    below : (n d : ℕ) → 0 < d → n * 8 ≤ (8 * k + 3) * 1 * d → 2 * n + d < suc k * (2 * d)
    below n d D h =
        let a : (8 * k + 3) * 1 * d ≡ 8 * (k * d) + 3 * d = ap (λ (x : ℕ). x * d) (mul-one (8 * k + 3)) ∙ add-mul (8 * k) 3 d ∙ ap (λ (x : ℕ). x + 3 * d) (mul_assoc 8 k d) in
        let b : suc k * (2 * d) ≡ k * d * 2 + 2 * d = simp (suc-mul, mul_assoc, mul_comm, mul_left_comm) in
        omega arith
