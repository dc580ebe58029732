-- The term (2 × s) × q of ln grows with m, rounding and all: its size grows with that of s, and s grows with m since m - 1 is exact and the rounding of m + 1 moves s by less than the next m does. Assumes nothing.
use mathlib.Core.Path.{◌≡◌, refl, sym, ap, ◌∙◌, subst}
use mathlib.Core.Logic.{inl, inr}
use Prim.Native.Nat.{ℕ, zero, suc, ◌+◌, ◌-◌, ◌*◌, ◌/◌, ◌^◌, ◌≤◌, ◌<◌}
use native.Mathlib.Nat.{le_refl, le_trans, le_of_eq, lt_of_lt_of_le, eq-or-lt_of_le, zero-lt-suc, mul-one, mul_comm, mul_assoc, mul-add, add-mul, mul-mul-mul_comm, mul-pos, mul-le-mul_left, mul-le-mul_right}
use native.Mathlib.Omega.{arith}
use mathlib.Core.Bool.{Bool, true, false, not, ◌&&◌, true≢false}
use borrow.Author.Tests.{le-ltb, lt-ltb}
use lib.Dec.{T, lit<, lit≤, eqb-suc-zero}
use lib.Pow.{pow-add, pow_pos, pow_mono, shl_lt}
use lib.IntN.{pos, negsuc}
use lib.Ieee.{Float, nan, inf, fin, binary64, up, down, round, sum, add, sub, mul, div, neg, le, is_nan, of_int}
use lib.Ieee.Exact.{HasValue, round_exact}
use lib.Ieee.Fits.{and_i, and_l, and_r, up_pos, down_pos}
use lib.Ieee.Order.{round_mono}
use lib.Ieee.Positive.{positive, num, den, den_pos, between, own_value, value_pos, positive_of_value, values_of_le}
use lib.Ieee.Scale.{finite, round_same}
use Rattle.arith.specs.Bounds.{negative, Within}
use Rattle.logarithm.specs.Ln.{series, whole}
use Rattle.arith.specs.Lists.{every}
use Rattle.arith.proofs.Order as order
use Rattle.arith.proofs.Within.{bound, sizes, upper, mul_in, add-in, within-finite, abs-round, neg-round, negative-round}
use Rattle.logarithm.proofs.LnSize.{s-of, coefficient}
use Rattle.arith.proofs.Mono.{unlike-plus}

-- ---- x is at most x' in size, and x' is from +0 to b
record Grows (b x x' : Float) : Type 0 where
  plus : T (bound x')
  under : Within x' x
  small : T (le x' b)

plus-of : (x : Float) → T (finite x) → negative x ≡ false → T (bound x)
plus-of nan F n = F
plus-of (inf s) F n = F
plus-of (fin s m e) F n = subst (λ (b : Bool). T (not b)) (sym n) tt

own : (b x : Float) → T (bound x) → T (le x b) → Within b x
own b x p = sizes (λ x y. T (le x b) → Within b x) (λ m n e d h. h) x x (and_i (bound x) (bound x) p p)

itself : (x : Float) → T (bound x) → T (le x x)
itself x p = sizes (λ x y. T (le x x)) (λ m n e d. order.reflexive (fin false m e) (unfold is_nan in tt)) x x (and_i (bound x) (bound x) p p)

same : (b x : Float) → T (bound x && le x b) → Grows b x x
same b x t = let p = and_l (bound x) (le x b) t in record { plus = p; under = own x x p (itself x p); small = and_r (bound x) (le x b) t }

-- then so are a product and a sum of two such
module _ (op : Float → Float → Float) (op-plus : (x y : Float) → T (bound x) → T (bound y) → negative (op x y) ≡ false)
    (op-in : (b c d x y : Float) → T (bound b && bound c && le (op b c) d) → Within b x → Within c y → Within d (op x y)) where
  grows : (b c d x x' y y' : Float) → T (finite d) → T (bound b && bound c && le (op b c) d) → Grows b x x' → Grows c y y' → Grows d (op x y) (op x' y')
  grows b c d x x' y y' F t g h =
      let w = op-in b c d x' y' t (own b x' g.plus g.small) (own c y' h.plus h.small) in
      let p = plus-of (op x' y') (within-finite d (op x' y') F w) (op-plus x' y' g.plus h.plus) in
      record {
        plus = p;
        under = op-in x' y' (op x' y') x y (and_i (bound x' && bound y') (le (op x' y') (op x' y')) (and_i (bound x') (bound y') g.plus h.plus) (itself (op x' y') p)) g.under h.under;
        small = upper d (op x' y') w;
      }

mul-plus : (x y : Float) → T (bound x) → T (bound y) → negative (mul binary64 x y) ≡ false
unfolding mul
mul-plus x y p q = sizes (λ x y. negative (mul binary64 x y) ≡ false) (λ m n e d. negative-round binary64 false (m * up e * (n * up d)) (down e * down d)) x y (and_i (bound x) (bound y) p q)

add-plus : (x y : Float) → T (bound x) → T (bound y) → negative (add binary64 x y) ≡ false
unfolding add
add-plus x y p q = sizes (λ x y. negative (add binary64 x y) ≡ false) (λ m n e d. negative-round binary64 false (m * up e * down d + n * up d * down e) (down e * down d)) x y (and_i (bound x) (bound y) p q)

mul-grows : (b c d x x' y y' : Float) → T (finite d) → T (bound b && bound c && le (mul binary64 b c) d) → Grows b x x' → Grows c y y' → Grows d (mul binary64 x y) (mul binary64 x' y')
mul-grows = grows (mul binary64) mul-plus (mul_in binary64)

add-grows : (b c d x x' y y' : Float) → T (finite d) → T (bound b && bound c && le (add binary64 b c) d) → Grows b x x' → Grows c y y' → Grows d (add binary64 x y) (add binary64 x' y')
add-grows = grows (add binary64) add-plus (add-in binary64)

-- ---- q grows with z, up to z = 1/16
abbrev one : Float
one = fin false 1 (pos 0)

abbrev two : Float
two = fin false 1 (pos 1)

abbrev z-max : Float
z-max = fin false 1 (negsuc 3)

abbrev at_most_one : ℕ → Bool
at_most_one n = bound (coefficient n) && le (coefficient n) one

series-grows : (n : ℕ) → T (every n at_most_one) → (z z' q q' : Float) → Grows z-max z z' → Grows two q q' → Grows two (series n z q) (series n z' q')
unfolding series every
series-grows zero t z z' q q' Z Q = Q
series-grows (suc n) t z z' q q' Z Q =
    let c = coefficient n in
    let eighth = fin false 1 (negsuc 2) in
    series-grows n (and_l (every n at_most_one) (at_most_one n) t) z z' (add binary64 c (mul binary64 z q)) (add binary64 c (mul binary64 z' q')) Z
    (add-grows one eighth two c c (mul binary64 z q) (mul binary64 z' q') tt (unfold add le in tt) (same one c (and_r (every n at_most_one) (at_most_one n) t)) (mul-grows z-max two eighth z z' q q' tt (unfold mul le in tt) Z Q))

-- ---- (2 × s) × q grows with s, from 0 to 1/4
abbrev s-max : Float
s-max = fin false 1 (negsuc 1)

abbrev q-of : Float → Float
q-of s = series 11 (mul binary64 s s) (div binary64 (whole 1) (whole 23))

abbrev pub product : Float → Float
product s = mul binary64 (mul binary64 (whole 2) s) (q-of s)

q-grows : (s s' : Float) → Grows s-max s s' → Grows two (q-of s) (q-of s')
q-grows s s' g =
    let c = div binary64 (whole 1) (whole 23) in
    series-grows 11 (unfold every div le of_int in tt) (mul binary64 s s) (mul binary64 s' s') c c (mul-grows s-max s-max z-max s s' s s' tt (unfold mul le in tt) g g) (same two c (unfold div le of_int in tt))

twice-grows : (s s' : Float) → Grows s-max s s' → Grows one (mul binary64 (whole 2) s) (mul binary64 (whole 2) s')
twice-grows s s' g = mul-grows two s-max one (whole 2) (whole 2) s s' tt (unfold mul le in tt) (same two (whole 2) (unfold le of_int in tt)) g

product-grows : (s s' : Float) → Grows s-max s s' → Grows two (product s) (product s')
product-grows s s' g = mul-grows one two two (mul binary64 (whole 2) s) (mul binary64 (whole 2) s') (q-of s) (q-of s') tt (unfold mul le in tt) (twice-grows s s' g) (q-grows s s' g)

-- and it is odd
square : (x : Float) → T (bound x) → mul binary64 (neg x) (neg x) ≡ mul binary64 x x
unfolding mul neg
square x p = sizes (λ x y. mul binary64 (neg x) (neg x) ≡ mul binary64 x x) (λ m n e d. refl) x x (and_i (bound x) (bound x) p p)

-- the sign of a product
neg-mul : (x y : Float) → T (bound x) → T (bound y) → (mul binary64 (neg x) y ≡ neg (mul binary64 x y)) × (mul binary64 x (neg y) ≡ neg (mul binary64 x y))
unfolding mul neg
neg-mul x y p q =
    sizes (λ x y. (mul binary64 (neg x) y ≡ neg (mul binary64 x y)) × (mul binary64 x (neg y) ≡ neg (mul binary64 x y)))
    (λ m n e d. let r = sym (neg-round binary64 (m * up e * (n * up d)) (down e * down d)) in (r, r)) x y (and_i (bound x) (bound y) p q)

product-neg : (s : Float) → Grows s-max s s → product (neg s) ≡ neg (product s)
product-neg s g = rw (square s g.plus, (neg-mul (whole 2) s (unfold of_int in tt) g.plus).1) (neg-mul (mul binary64 (whole 2) s) (q-of s) (twice-grows s s g).plus (q-grows s s g).plus).0

-- ---- fractions of 2 ^ j, each of 2 ^ i of the format's smallest values
module _ (i j : ℕ) (ij : i + j ≡ 1074) where
  pub exact : (s : Bool) (a k : ℕ) → a < 2 ^ 53 → k ≤ 54 → HasValue (round binary64 s (a * 2 ^ k) (2 ^ j)) s (a * 2 ^ k) (2 ^ j)
  exact s a k A K =
      round_exact binary64 s (a * 2 ^ k) (2 ^ j) a (k + i) (pow_pos j) A (lt_of_lt_of_le (shl_lt 53 (k + i) A) (pow_mono (let h : 53 + (k + i) ≤ 2098 = omega arith in h)))
      (ap (λ (n : ℕ). a * 2 ^ k * n) (ap (λ (n : ℕ). 2 ^ n) (sym ij) ∙ pow-add 2 i j) ∙ sym (mul_assoc (a * 2 ^ k) (2 ^ i) (2 ^ j)) ∙ ap (λ (n : ℕ). n * 2 ^ j) (mul_assoc a (2 ^ k) (2 ^ i) ∙ ap (λ (n : ℕ). a * n) (sym (pow-add 2 k i))))

  -- an even number up to 2 ^ 54 is exact
  even : (q : ℕ) → q ≤ 2 ^ 53 → HasValue (round binary64 false (q * 2) (2 ^ j)) false (q * 2) (2 ^ j)
  even q h =
      elim (eq-or-lt_of_le h) [
        | inl e ↦ subst (λ (q : ℕ). HasValue (round binary64 false (q * 2) (2 ^ j)) false (q * 2) (2 ^ j)) (sym e) (exact false 1 54 (lit< tt) (le_refl 54))
        | inr l ↦ exact false q 1 l (omega arith)
      ]

  -- so any number up to there is off by 1 at most
  near : (n : ℕ) → 2 ≤ n → n ≤ 2 ^ 54 → (d : Float) → round binary64 false n (2 ^ j) ≡ d → T (positive d) × ((n - 1) * den d ≤ num d * 2 ^ j) × (num d * 2 ^ j ≤ (n + 1) * den d)
  near n low high d is =
      let a = n / 2 in
      let b = (n + 1) / 2 in
      let x = round binary64 false (a * 2) (2 ^ j) in
      let y = round binary64 false (b * 2) (2 ^ j) in
      let vx = even a (omega arith) in
      let vy = even b (omega arith) in
      let px = positive_of_value x (a * 2) (2 ^ j) vx (omega arith) in
      let py = positive_of_value y (b * 2) (2 ^ j) vy (omega arith) in
      let lx : T (le x d) = rw (← is) (round_mono binary64 (a * 2) (2 ^ j) n (2 ^ j) (pow_pos j) (pow_pos j) (mul-le-mul_right (2 ^ j) (let h : a * 2 ≤ n = omega arith in h))) in
      let ly : T (le d y) = rw (← is) (round_mono binary64 n (2 ^ j) (b * 2) (2 ^ j) (pow_pos j) (pow_pos j) (mul-le-mul_right (2 ^ j) (let h : n ≤ b * 2 = omega arith in h))) in
      let p = between x d y px py lx ly in
      let v = own_value d p in (
        p,
        le_trans (mul-le-mul_right (den d) (let h : n - 1 ≤ a * 2 = omega arith in h)) (values_of_le x d (a * 2) (2 ^ j) (num d) (den d) px p vx v lx),
        le_trans (values_of_le d y (num d) (den d) (b * 2) (2 ^ j) p py v vy ly) (mul-le-mul_right (den d) (let h : b * 2 ≤ n + 1 = omega arith in h)),
      )

-- ---- m is 1 + a / 2 ^ 52 or, below 1, 1 - a / 2 ^ 53
abbrev bits : Bool → ℕ
bits false = 52
bits true = 53

abbrev numerator : Bool → ℕ → ℕ
numerator false a = 2 ^ 52 + a
numerator true a = 2 ^ 53 - a

abbrev pub Off : Bool → Float → ℕ → Type 0
Off s m a = HasValue m false (numerator s a) (2 ^ bits s)

-- up to the document's root of 2, and down to half the float after it
abbrev pub edge : Bool → ℕ
edge false = 0x6a09e667f3bcd
edge true = 0x95f619980c432

abbrev pub Range : Bool → ℕ → Type 0
Range false a = a ≤ edge false
Range true a = (0 < a) × (a ≤ edge true)

to-edge : (s : Bool) (a : ℕ) → Range s a → a ≤ edge s
to-edge false a r = r
to-edge true a r = r.1

edge-high : (s : Bool) → edge s ≤ 2 ^ 52
edge-high false = lit≤ tt
edge-high true = lit≤ tt

-- ---- in these units m - 1 is a, and m + 1 is this
abbrev total : Bool → ℕ → ℕ
total false a = 2 ^ 53 + a
total true a = 2 ^ 54 - a

minus-less : (a b c : ℕ) → b ≤ a → sum binary64 false a true b c ≡ round binary64 false (a - b) c
unfolding sum
minus-less a b c h = rw (le-ltb a b h)

minus-more : (a b c : ℕ) → a < b → sum binary64 false a true b c ≡ round binary64 true (b - a) c
unfolding sum
minus-more a b c h = rw (lt-ltb a b h)

-- where m is x / p
above-one : (x p a : ℕ) → x * 2 ^ 52 ≡ (2 ^ 52 + a) * p → (1 * 1 * p ≤ x * 1) × ((x * 1 - 1 * 1 * p) * 2 ^ 52 ≡ a * (p * 1)) × ((x * 1 + 1 * 1 * p) * 2 ^ 52 ≡ (2 ^ 53 + a) * (p * 1))
above-one x p a h =
    let g = add-mul (2 ^ 52) a p in
    let k = add-mul (2 ^ 53) a p in
    rw (mul-one p) (omega arith)

below_one : (x p a : ℕ) → 0 < p → 0 < a → a ≤ 2 ^ 52 → x * 2 ^ 53 ≡ (2 ^ 53 - a) * p → (x * 1 < 1 * 1 * p) × ((1 * 1 * p - x * 1) * 2 ^ 53 ≡ a * (p * 1)) × ((x * 1 + 1 * 1 * p) * 2 ^ 53 ≡ (2 ^ 54 - a) * (p * 1))
below_one x p a P A l h =
    let g = sym (add-mul (2 ^ 53 - a) a p) ∙ ap (λ (n : ℕ). n * p) (let e : 2 ^ 53 - a + a ≡ 2 ^ 53 = omega arith in e) in
    let k = sym (add-mul (2 ^ 54 - a) a p) ∙ ap (λ (n : ℕ). n * p) (let e : 2 ^ 54 - a + a ≡ 2 ^ 54 = omega arith in e) in
    let w = mul-pos A P in
    rw (mul-one p) (omega arith)

ends : (s : Bool) (m : Float) (a : ℕ) → Range s a → Off s m a → (sub binary64 m (whole 1) ≡ round binary64 s a (2 ^ bits s)) × (add binary64 m (whole 1) ≡ round binary64 false (total s a) (2 ^ bits s))
unfolding sub add sum neg of_int
ends false (fin true m e) a r h = absurd (true≢false h.0)
ends true (fin true m e) a r h = absurd (true≢false h.0)
ends false (fin false m e) a r h =
    let x = m * up e * 1 in
    let y = 1 * 1 * down e in
    let D = mul-pos (down_pos e) (pow_pos 0) in
    let k = above-one (m * up e) (down e) a h.1 in (
      minus-less x y (down e * 1) k.0 ∙ round_same binary64 false (x - y) (down e * 1) a (2 ^ 52) D (pow_pos 52) k.1,
      round_same binary64 false (x + y) (down e * 1) (2 ^ 53 + a) (2 ^ 52) D (pow_pos 52) k.2,
    )
ends true (fin false m e) a r h =
    let x = m * up e * 1 in
    let y = 1 * 1 * down e in
    let D = mul-pos (down_pos e) (pow_pos 0) in
    let k = below_one (m * up e) (down e) a (down_pos e) r.0 (le_trans r.1 (edge-high true)) h.1 in (
      minus-more x y (down e * 1) k.0 ∙ round_same binary64 true (y - x) (down e * 1) a (2 ^ 53) D (pow_pos 53) k.1,
      round_same binary64 false (x + y) (down e * 1) (2 ^ 54 - a) (2 ^ 53) D (pow_pos 53) k.2,
    )
ends false nan a r h = elim h [ ]
ends false (inf _) a r h = elim h [ ]
ends true nan a r h = elim h [ ]
ends true (inf _) a r h = elim h [ ]

difference : (s : Bool) (a : ℕ) → a ≤ 2 ^ 52 → HasValue (round binary64 s a (2 ^ bits s)) s a (2 ^ bits s)
difference false a h = rw (mul-one a) at (exact 1022 52 refl false a 0 (omega arith) (omega arith))
difference true a h = rw (mul-one a) at (exact 1021 53 refl true a 0 (omega arith) (omega arith))

abbrev divisor : Bool → ℕ → Float
divisor s a = round binary64 false (total s a) (2 ^ bits s)

divisor-near : (s : Bool) (a : ℕ) → a ≤ 2 ^ 52
    → T (positive (divisor s a)) × ((total s a - 1) * den (divisor s a) ≤ num (divisor s a) * 2 ^ bits s) × (num (divisor s a) * 2 ^ bits s ≤ (total s a + 1) * den (divisor s a))
divisor-near false a h = near 1022 52 refl (2 ^ 53 + a) (omega arith) (omega arith) (divisor false a) refl
divisor-near true a h = near 1021 53 refl (2 ^ 54 - a) (omega arith) (omega arith) (divisor true a) refl

-- ---- s is the quotient of the two, rounded
abbrev signed : Bool → Float → Float
signed false x = x
signed true x = neg x

signed_round : (s : Bool) (n d : ℕ) → round binary64 s n d ≡ signed s (round binary64 false n d)
signed_round false n d = refl
signed_round true n d = sym (neg-round binary64 n d)

exchange : (x g n c a p : ℕ) → x * c ≡ a * p → x * g * (n * c) ≡ a * g * (n * p)
exchange x g n c a p h =
    ap (λ (z : ℕ). x * g * z) (mul_comm n c) ∙ mul-mul-mul_comm x g c n ∙ ap (λ (z : ℕ). z * (g * n)) h ∙ mul-mul-mul_comm a p g n ∙ ap (λ (z : ℕ). a * g * z) (mul_comm p n)

div-at : (s : Bool) (x y : Float) (a c : ℕ) → T (positive y) → 0 < c → HasValue x s a c → div binary64 x y ≡ round binary64 s (a * den y) (num y * c)
unfolding div
div-at s (fin t m e) (fin false zero d) a c p C h = absurd p
div-at s (fin t m e) (fin false (suc n) d) a c p C h =
    let N = mul-pos (zero-lt-suc n) (up_pos d) in
    rw (eqb-suc-zero n, unlike-plus t, h.0)
    (round_same binary64 s (m * up e * down d) (suc n * up d * down e) (a * down d) (suc n * up d * c) (mul-pos N (down_pos e)) (mul-pos N C) (exchange (m * up e) (down d) (suc n * up d) c a (down e) h.1))
div-at s nan y a c p C h = elim h [ ]
div-at s (inf _) y a c p C h = elim h [ ]
div-at s (fin t m e) nan a c p C h = elim p [ ]
div-at s (fin t m e) (inf _) a c p C h = elim p [ ]
div-at s (fin t m e) (fin true _ d) a c p C h = elim p [ ]

abbrev quotient : Bool → ℕ → Float
quotient s a = round binary64 false (a * den (divisor s a)) (num (divisor s a) * 2 ^ bits s)

s-is : (s : Bool) (m : Float) (a : ℕ) → Range s a → Off s m a → s-of m ≡ signed s (quotient s a)
s-is s m a r h =
    let e = ends s m a r h in
    let d = divisor s a in
    let l = le_trans (to-edge s a r) (edge-high s) in
    rw (e.0, e.1) (div-at s (round binary64 s a (2 ^ bits s)) d a (2 ^ bits s) (divisor-near s a l).0 (pow_pos (bits s)) (difference s a l) ∙ signed_round s (a * den d) (num d * 2 ^ bits s))

-- ---- and its size grows with a
further : (s : Bool) (a b : ℕ) → a < b → b ≤ 2 ^ 52 → a * (total s b + 1) ≤ b * (total s a - 1)
further false a b h l =
    let x : a * (2 ^ 53 + b + 1) ≡ a * (2 ^ 53 + 1) + a * b = ap (λ (n : ℕ). a * n) (let e : 2 ^ 53 + b + 1 ≡ 2 ^ 53 + 1 + b = omega arith in e) ∙ mul-add a (2 ^ 53 + 1) b in
    let y : b * (2 ^ 53 + a - 1) ≡ b * (2 ^ 53 - 1) + b * a = ap (λ (n : ℕ). b * n) (let e : 2 ^ 53 + a - 1 ≡ 2 ^ 53 - 1 + a = omega arith in e) ∙ mul-add b (2 ^ 53 - 1) a in
    let c = mul_comm a b in
    omega arith
further true a b h l =
    let x : a * (2 ^ 54 - b + 1) + a * b ≡ a * (2 ^ 54 + 1) = sym (mul-add a (2 ^ 54 - b + 1) b) ∙ ap (λ (n : ℕ). a * n) (let e : 2 ^ 54 - b + 1 + b ≡ 2 ^ 54 + 1 = omega arith in e) in
    let y : b * (2 ^ 54 - a - 1) + b * a ≡ b * (2 ^ 54 - 1) = sym (mul-add b (2 ^ 54 - a - 1) a) ∙ ap (λ (n : ℕ). b * n) (let e : 2 ^ 54 - a - 1 + a ≡ 2 ^ 54 - 1 = omega arith in e) in
    let c = mul_comm a b in
    omega arith

-- in units of 1 / c the first divisor, h / g, is at least n, and the second, k / l, at most p
fractions : (a g h b l k n p c : ℕ) → n * g ≤ h * c → k * c ≤ p * l → a * p ≤ b * n → a * g * (k * c) ≤ b * l * (h * c)
fractions a g h b l k n p c u v w =
    le_trans (mul-le-mul_left (a * g) v)
    (le_trans (le_of_eq (mul-mul-mul_comm a g p l))
    (le_trans (mul-le-mul_right (g * l) w) (le_trans (le_of_eq (ap (λ (z : ℕ). b * n * z) (mul_comm g l) ∙ mul-mul-mul_comm b n l g)) (mul-le-mul_left (b * l) u))))

num_pos : (x : Float) → T (positive x) → 0 < num x
num_pos x p = value_pos x (num x) (den x) p (den_pos x) (own_value x p)

quotient-mono : (s : Bool) (a b : ℕ) → a ≤ b → b ≤ 2 ^ 52 → T (le (quotient s a) (quotient s b))
quotient-mono s a b h l =
    let x = divisor s a in
    let y = divisor s b in
    let u = divisor-near s a (le_trans h l) in
    let v = divisor-near s b l in
    round_mono binary64 (a * den x) (num x * 2 ^ bits s) (b * den y) (num y * 2 ^ bits s) (mul-pos (num_pos x u.0) (pow_pos (bits s))) (mul-pos (num_pos y v.0) (pow_pos (bits s)))
    (elim (eq-or-lt_of_le h) [
      | inl e ↦ le_of_eq (ap (λ (n : ℕ). n * den (divisor s n) * (num y * 2 ^ bits s)) e ∙ ap (λ (n : ℕ). b * den y * (num (divisor s n) * 2 ^ bits s)) (sym e))
      | inr k ↦ fractions a (den x) (num x) b (den y) (num y) (total s a - 1) (total s b + 1) (2 ^ bits s) u.1 v.2 (further s a b k l)
    ])

edge-small : (s : Bool) → T (le (quotient s (edge s)) s-max)
edge-small false = unfold round le in tt
edge-small true = unfold round le in tt

quotient-grows : (s : Bool) (a b : ℕ) → a ≤ b → b ≤ edge s → Grows s-max (quotient s a) (quotient s b)
quotient-grows s a b h l =
    let y = quotient s b in
    let k = order.le_trans y (quotient s (edge s)) s-max (quotient-mono s b (edge s) l (edge-high s)) (edge-small s) in
    record {
      plus = plus-of y (within-finite s-max y tt (sized b s-max k)) (negative-round binary64 false (b * den (divisor s b)) (num (divisor s b) * 2 ^ bits s));
      under = sized a y (quotient-mono s a b h (le_trans l (edge-high s)));
      small = k;
    }
  where
    sized : (a : ℕ) (b : Float) → T (le (quotient s a) b) → Within b (quotient s a)
    sized a b h = subst (λ (z : Float). T (le z b)) (sym (abs-round binary64 false (a * den (divisor s a)) (num (divisor s a) * 2 ^ bits s))) h

-- ---- (2 × s) × q at such an m
abbrev pub term : Bool → ℕ → Float
term s a = signed s (product (quotient s a))

pub term_is : (s : Bool) (m : Float) (a : ℕ) → Range s a → Off s m a → product (s-of m) ≡ term s a
term_is false m a r h = ap product (s-is false m a r h)
term_is true m a r h = ap product (s-is true m a r h) ∙ product-neg (quotient true a) (quotient-grows true a a (le_refl a) r.1)

size-grows : (s : Bool) (a b : ℕ) → a ≤ b → b ≤ edge s → Grows two (product (quotient s a)) (product (quotient s b))
size-grows s a b h l = product-grows (quotient s a) (quotient s b) (quotient-grows s a b h l)

size_mono : (s : Bool) (a b : ℕ) → a ≤ b → b ≤ edge s → T (le (product (quotient s a)) (product (quotient s b)))
size_mono s a b h l = upper (product (quotient s b)) (product (quotient s a)) (size-grows s a b h l).under

across : (x y : Float) → T (bound x) → T (bound y) → T (le (neg x) y)
unfolding le neg
across x y p q = sizes (λ x y. T (le (neg x) y)) (λ m n e d. order.→le true (m * up e * down d) false (n * up d * down e) tt) x y (and_i (bound x) (bound y) p q)

none : (a b : ℕ) → a + b ≤ 0 → 0 < b → ⊥
none a b h l = omega arith

pub term-mono : (s : Bool) (a : ℕ) (t : Bool) (b : ℕ) → Range s a → Range t b → order.LeS s a t b → T (le (term s a) (term t b))
term-mono false a false b r q h = size_mono false a b h q
term-mono false a true b r q h = absurd (none a b h q.0)
term-mono true a false b r q h = across (product (quotient true a)) (product (quotient false b)) (size-grows true a a (le_refl a) r.1).plus (size-grows false b b (le_refl b) q).plus
term-mono true a true b r q h = order.neg-anti (product (quotient true b)) (product (quotient true a)) (size_mono true b a h r.1)
