-- lo + u * (hi - lo), for lo ≤ hi and 0 ≤ u ≤ 1, is from lo - c to hi + c, where hi - lo is below 2 ^ t and c is at least 2 ^ (t - 54): the rounded difference is off by half a unit, and the exact sums are in order. Assumes nothing.
use Rattle.std.proofs.Common.{◌≡◌, ℕ, zero, suc, ◌+◌, ◌*◌, ◌^◌, ◌<◌, ◌≤◌, Bool, true, false, ◌&&◌, T, ltb, leb, ℤ, pos, negsuc, sym, refl, ap, ◌∙◌, subst, zero-le, le_trans, le_of_eq, le_refl, lt_of_lt_of_le, lt_of_le_of_lt, add-zero, mul-le-mul_right, mul_assoc, mul_comm, add-mul, add_comm, lt_of_mul-lt-mul_right, mul-lt-mul_of_pos_right, mul-pos, one-mul, zero-mul, mul_right_comm, mul_left_comm, arith, ltb→lt, leb→le, pow_pos}
use lib.Ieee.{Float, nan, inf, fin, Format, binary64, up, down, round, add, sub, mul, neg, le, fits, is_nan, of_int, of_bits}
use lib.Ieee.Fits.{and_i, and_l, and_r, sub-fits}
use lib.Ieee.Scale.{finite}
use lib.Ieee.Positive.{num, den, den_pos}
use Rattle.arith.specs.Bounds.{Within, Between, Sign, abs}
use Rattle.arith.proofs.Order as order
use Rattle.arith.proofs.Within.{bound, cross, abs-round, add-in, sub_in, mul-within, sub_within, within, within-finite, upper, lower, le-abs}
use Rattle.arith.proofs.Mono.{P, N, num⁺, num⁻, le-cross, Rounded, rounded-mono, add-rounded, sub-rounded, add_right, neg-finite}
use Rattle.arith.proofs.Sign.{mul-sign}
use Rattle.arith.proofs.HalfUnit.{half-unit}
use Rattle.arith.proofs.Held.{held}

-- ---- adding what is not below 0
held-rounded : (x : Float) → T (fits binary64 x) → T (finite x) → Rounded x (num⁺ x) (num⁻ x) (den x)
held-rounded (fin s m e) t F = record { sign = s; size = m * up e; is = sym (held binary64 s m e t); value = add_comm (P s (m * up e)) (N s (m * up e)) }
held-rounded nan t F = elim F [ ]
held-rounded (inf _) t F = elim F [ ]

not-below : (x : Float) → T (finite x) → Sign false x → num⁻ x ≤ num⁺ x
unfolding of_bits
not-below x F h = let k = le-cross (fin false 0 (pos 0)) x tt F h in omega (arith, zero-mul (den x))

pub add-more : (x y : Float) → T (fits binary64 x) → T (finite x) → T (finite y) → Sign false y → T (le x (add binary64 x y))
add-more x y t F G h =
    rounded-mono (held-rounded x t F) (add-rounded x y F G) (den_pos x) (mul-pos (den_pos x) (den_pos y)) (go (num⁺ x) (num⁻ x) (den x) (num⁺ y) (num⁻ y) (den y) (not-below y G h))
  where
    go : (u v p w z q : ℕ) → z ≤ w → u * (p * q) + (v * q + z * p) * p ≤ (u * q + w * p) * p + v * (p * q)
    go u v p w z q k =
        let m = simp (mul_assoc, mul_comm, mul_left_comm) at (mul-le-mul_right (p * p) k) in
        simp (add-mul, mul_assoc, mul_comm, mul_left_comm) (omega arith)

-- ---- a value times a u of at most 1 in size is no larger
abbrev pub one : Float
one = of_int binary64 (pos 1)

either-sign : (f : Format) (s : Bool) (m : ℕ) (e : ℤ) → T (fits f (fin s m e)) → T (fits f (fin false m e))
unfolding fits
either-sign f s zero e t = t
either-sign f s (suc m) e t = t

pub mul-unit : (u x : Float) → Within one u → T (fits binary64 x) → T (finite x) → Within (abs x) (mul binary64 u x)
mul-unit u (fin s m e) w t F =
    subst (λ (y : Float). Within y (mul binary64 u (fin s m e))) same
    (mul-within binary64 1 m (pos 0) e u (fin s m e) (unfold of_int in w) (order.reflexive (fin false m e) (unfold is_nan in tt)))
  where
    same : mul binary64 (fin false 1 (pos 0)) (fin false m e) ≡ fin false m e
    same = unfold mul in rw (one-mul (m * up e), one-mul (down e)) (held binary64 false m e (either-sign binary64 s m e t))
mul-unit u nan w t F = elim F [ ]
mul-unit u (inf _) w t F = elim F [ ]

-- ---- hi - lo, for lo and hi of at most b in size
num⁺-le : (x : Float) → num⁺ x ≤ num x
num⁺-le nan = zero-le
num⁺-le (inf s) = zero-le
num⁺-le (fin true m e) = zero-le
num⁺-le (fin false m e) = le_refl (m * up e)

num⁻-le : (x : Float) → num⁻ x ≤ num x
num⁻-le nan = zero-le
num⁻-le (inf s) = zero-le
num⁻-le (fin true m e) = le_refl (m * up e)
num⁻-le (fin false m e) = zero-le

within-cross : (b x : Float) → T (bound b) → Within b x → num x * den b ≤ num b * den x
unfolding le
within-cross (fin false n d) (fin s m e) B w = cross m e n d w
within-cross nan _ B w = elim B [ ]
within-cross (inf _) _ B w = elim B [ ]
within-cross (fin false n d) nan B w = elim w [ ]
within-cross (fin false n d) (inf _) B w = elim w [ ]
within-cross (fin true n d) _ B w = elim B [ ]

-- a bound is finite and not below 0
plain : (x : Float) → T (bound x) → (num⁺ x ≡ num x) × (num⁻ x ≡ 0)
plain (fin false m e) B = (refl, refl)
plain nan B = elim B [ ]
plain (inf _) B = elim B [ ]
plain (fin true m e) B = elim B [ ]

bound-finite : (x : Float) → T (bound x) → T (finite x)
bound-finite (fin false m e) B = tt
bound-finite nan B = elim B [ ]
bound-finite (inf _) B = elim B [ ]
bound-finite (fin true m e) B = elim B [ ]

bound-within : (x : Float) → T (bound x) → Within x x
unfolding is_nan
bound-within (fin false m e) B = order.reflexive (fin false m e) tt
bound-within nan B = elim B [ ]
bound-within (inf _) B = elim B [ ]
bound-within (fin true m e) B = elim B [ ]

bound-neg : (x : Float) → T (bound x) → T (le (neg x) (of_bits binary64 0))
unfolding le neg of_bits
bound-neg (fin false m e) B = order.→le true (m * up e * 1) false (0 * 1 * down e) tt
bound-neg nan B = elim B [ ]
bound-neg (inf _) B = elim B [ ]
bound-neg (fin true m e) B = elim B [ ]

bound-abs : (x : Float) → T (finite x) → T (bound (abs x))
bound-abs (fin s m e) F = tt
bound-abs nan F = elim F [ ]
bound-abs (inf _) F = elim F [ ]

-- the size of u - v, for v ≤ u
apart : (g : Bool) (n u v : ℕ) → P g n + v ≡ N g n + u → v ≤ u → n + v ≡ u
apart true n u v e h = omega arith
apart false n u v e h = omega arith

-- n / (q * p) is below 2 b, so below k
small : (n x y b β p q k : ℕ) → n ≤ x * p + y * q → x * β ≤ b * q → y * β ≤ b * p → 2 * b < k * β → 0 < q * p → n < k * (q * p)
small n x y b β p q k h hx hy hb Q =
    let s : (x * p + y * q) * β ≤ 2 * b * (q * p) =
    let a = simp (mul_assoc, mul_comm, mul_left_comm) at (mul-le-mul_right p hx) in
    let c = simp (mul_assoc, mul_comm, mul_left_comm) at (mul-le-mul_right q hy) in
    simp (add-mul, mul_assoc, mul_comm, mul_left_comm) (omega arith) in
    lt_of_mul-lt-mul_right β
    (lt_of_le_of_lt (le_trans (mul-le-mul_right β h) s) (lt_of_lt_of_le (mul-lt-mul_of_pos_right hb Q) (le_of_eq (mul_right_comm k β (q * p)))))

-- lo + w / q ≤ hi + k / r, where w / q is off by t / 2 ^ 54 at most from hi - lo = n / (p' * p), and that is k / r at most
sums : (a⁺ a⁻ p b⁺ b⁻ p' w q k r n t : ℕ) → n + (b⁻ * p + a⁺ * p') ≡ b⁺ * p + a⁻ * p' → w * (p' * p) * 2 ^ 54 ≤ n * q * 2 ^ 54 + t * (p' * p * q) → t * r ≤ k * 2 ^ 54
    → (a⁺ * q + w * p) * (p' * r) + (b⁻ * r + 0 * p') * (p * q) ≤ (b⁺ * r + k * p') * (p * q) + (a⁻ * q + 0 * p) * (p' * r)
sums a⁺ a⁻ p b⁺ b⁻ p' w q k r n t d e c =
    let D = p' * p in
    let f : w * D * r * 2 ^ 54 ≤ n * q * r * 2 ^ 54 + t * r * (D * q) =
    le_trans (le_of_eq (mul_right_comm (w * D) r (2 ^ 54)))
    (le_trans (mul-le-mul_right r e)
    (le_of_eq (add-mul (n * q * 2 ^ 54) (t * (D * q)) r ∙ ap (λ (z : ℕ). z + t * (D * q) * r) (mul_right_comm (n * q) (2 ^ 54) r) ∙ ap (λ (z : ℕ). n * q * r * 2 ^ 54 + z) (mul_right_comm t (D * q) r)))) in
    let g : t * r * (D * q) ≤ k * (D * q) * 2 ^ 54 = le_trans (mul-le-mul_right (D * q) c) (le_of_eq (mul_right_comm k (2 ^ 54) (D * q))) in
    let x : w * D * r ≤ n * q * r + k * (D * q) = omega arith in
    let y = simp (mul_assoc, mul_comm, mul_left_comm) at x in
    let z = simp (add-mul, mul_assoc, mul_comm, mul_left_comm) at (ap (λ (i : ℕ). i * (q * r)) d) in
    simp (zero-mul, add-zero, add-mul, mul_assoc, mul_comm, mul_left_comm) (omega arith)

difference-within : (b x y : Float) → T (bound b) → Within b x → Within b y → Within (add binary64 b b) (sub binary64 x y)
difference-within (fin false m e) x y B p q = sub_within binary64 m m e e x y p q
difference-within nan x y B p q = elim B [ ]
difference-within (inf _) x y B p q = elim B [ ]
difference-within (fin true m e) x y B p q = elim B [ ]

-- what is computed of the bounds: 2 b is finite; it is below 2 ^ t, and 2 ^ (t - 54) is c at most
abbrev pub Doubles : Float → Bool
Doubles b = bound b && finite (add binary64 b b)

abbrev pub Covers : ℕ → Float → Float → Bool
Covers t b c = bound c && (ltb (2 * num b) (2 ^ t * den b) && leb (2 ^ t * den c) (num c * 2 ^ 54))

-- u scaled to lo and hi
abbrev pub scaled : Float → Float → Float → Float
scaled lo hi u = add binary64 lo (mul binary64 u (sub binary64 hi lo))

zero-rounded : Rounded (of_bits binary64 0) 0 0 1
zero-rounded = record { sign = false; size = 0; is = unfold of_bits round in refl; value = refl }

module _ (b lo hi : Float) (twice : T (Doubles b)) (wl : Within b lo) (wh : Within b hi) (h : T (le lo hi)) where
  b-bound : T (bound b)
  b-bound = and_l (bound b) (finite (add binary64 b b)) twice

  lo-finite : T (finite lo)
  lo-finite = within-finite b lo (bound-finite b b-bound) wl

  hi-finite : T (finite hi)
  hi-finite = within-finite b hi (bound-finite b b-bound) wh

  abbrev D : Float
  D = sub binary64 hi lo

  exact : Rounded D (num⁺ hi * den lo + num⁻ lo * den hi) (num⁻ hi * den lo + num⁺ lo * den hi) (den hi * den lo)
  exact = sub-rounded hi lo hi-finite lo-finite

  ordered : num⁻ hi * den lo + num⁺ lo * den hi ≤ num⁺ hi * den lo + num⁻ lo * den hi
  ordered = let k = le-cross lo hi lo-finite hi-finite h in omega arith

  D-finite : T (finite D)
  D-finite = within-finite (add binary64 b b) D (and_r (bound b) (finite (add binary64 b b)) twice) (difference-within b hi lo b-bound wh wl)

  D-sign : Sign false D
  D-sign = rounded-mono zero-rounded exact (pow_pos 0) (mul-pos (den_pos hi) (den_pos lo)) (let k = ordered in omega (arith, zero-mul (den hi * den lo)))

  -- all of it
  module _ (t : ℕ) (c : Float) (near : T (Covers t b c)) where
    c-bound : T (bound c)
    c-bound = and_l (bound c) (ltb (2 * num b) (2 ^ t * den b) && leb (2 ^ t * den c) (num c * 2 ^ 54)) near

    sizes : (2 * num b < 2 ^ t * den b) × (2 ^ t * den c ≤ num c * 2 ^ 54)
    sizes =
        let x = ltb (2 * num b) (2 ^ t * den b) in
        let y = leb (2 ^ t * den c) (num c * 2 ^ 54) in
        let k = and_r (bound c) (x && y) near in
        (ltb→lt (2 * num b) (2 ^ t * den b) (and_l x y k), leb→le (2 ^ t * den c) (num c * 2 ^ 54) (and_r x y k))

    D-exact : exact.size + (num⁻ hi * den lo + num⁺ lo * den hi) ≡ num⁺ hi * den lo + num⁻ lo * den hi
    D-exact = apart exact.sign exact.size (num⁺ hi * den lo + num⁻ lo * den hi) (num⁻ hi * den lo + num⁺ lo * den hi) exact.value ordered

    D-small : exact.size < 2 ^ t * (den hi * den lo)
    D-small =
        small exact.size (num hi) (num lo) (num b) (den b) (den lo) (den hi) (2 ^ t)
        (let x = mul-le-mul_right (den lo) (num⁺-le hi) in let y = mul-le-mul_right (den hi) (num⁻-le lo) in let k = D-exact in omega arith)
        (within-cross b hi b-bound wh) (within-cross b lo b-bound wl) sizes.0 (mul-pos (den_pos hi) (den_pos lo))

    size_back : T (le (add binary64 lo (abs D)) (add binary64 hi c))
    size_back =
        let E = bound-abs D D-finite in
        let p = plain (abs D) E in
        let q = plain c c-bound in
        rounded-mono (add-rounded lo (abs D) lo-finite (bound-finite (abs D) E)) (add-rounded hi c hi-finite (bound-finite c c-bound)) (mul-pos (den_pos lo) (den_pos (abs D))) (mul-pos (den_pos hi) (den_pos c))
        (rw (p.0, p.1, q.0, q.1)
        (sums (num⁺ lo) (num⁻ lo) (den lo) (num⁺ hi) (num⁻ hi) (den hi) (num (abs D)) (den (abs D)) (num c) (den c) exact.size (2 ^ t) D-exact
        (half-unit t exact.size (den hi * den lo) (mul-pos (den_pos hi) (den_pos lo)) D-small (abs D) (ap abs exact.is ∙ abs-round binary64 exact.sign exact.size (den hi * den lo)) (bound-finite (abs D) E)).0
        sizes.1))

    pub back : T (le (add binary64 lo (sub binary64 hi lo)) (add binary64 hi c))
    back =
        order.le_trans (add binary64 lo D) (add binary64 lo (abs D)) (add binary64 hi c)
        (add_right lo D (abs D) lo-finite D-finite (bound-finite (abs D) (bound-abs D D-finite)) (le-abs D (order.le-real (of_bits binary64 0) D D-sign).1).0) size_back

  -- a part of it
  module _ (u : Float) (w : Between (of_bits binary64 0) one u) where
    u-within : Within one u
    u-within = within one u w.1 (order.le_trans (neg one) (of_bits binary64 0) u (unfold le neg of_int of_bits in tt) w.0)

    part-within : Within (abs D) (mul binary64 u D)
    part-within = mul-unit u D u-within (sub-fits binary64 hi lo) D-finite

    part-finite : T (finite (mul binary64 u D))
    part-finite = within-finite (abs D) (mul binary64 u D) (bound-finite (abs D) (bound-abs D D-finite)) part-within

    part-sign : Sign false (mul binary64 u D)
    part-sign = mul-sign false false u D (within-finite one u (unfold of_int in tt) u-within) D-finite w.0 D-sign

    pub scaled-low : T (fits binary64 lo) → T (le lo (scaled lo hi u))
    scaled-low t = add-more lo (mul binary64 u D) t lo-finite part-finite part-sign

    module _ (t : ℕ) (c : Float) (near : T (Covers t b c)) where
      pub scaled-near : Between (sub binary64 lo c) (add binary64 hi c) (scaled lo hi u)
      unfolding sub
      scaled-near = let B = c-bound t c near in (
        add_right lo (neg c) (mul binary64 u D) lo-finite (neg-finite c (bound-finite c B)) part-finite (order.le_trans (neg c) (of_bits binary64 0) (mul binary64 u D) (bound-neg c B) part-sign),
        order.le_trans (scaled lo hi u) (add binary64 lo (abs D)) (add binary64 hi c)
            (add_right lo (mul binary64 u D) (abs D) lo-finite part-finite (bound-finite (abs D) (bound-abs D D-finite)) (upper (abs D) (mul binary64 u D) part-within)) (size_back t c near),
      )

      pub scaled-within : (d : Float) → T (le (add binary64 b c) d) → Within d (scaled lo hi u)
      scaled-within d k =
          let B = c-bound t c near in
          let e = and_i (bound b && bound c) (le (add binary64 b c) d) (and_i (bound b) (bound c) b-bound B) k in
          within d (scaled lo hi u)
          (order.le_trans (scaled lo hi u) (add binary64 hi c) d scaled-near.1 (upper d (add binary64 hi c) (add-in binary64 b c d hi c e wh (bound-within c B))))
          (order.le_trans (neg d) (sub binary64 lo c) (scaled lo hi u) (lower d (sub binary64 lo c) (sub_in binary64 b c d lo c e wl (bound-within c B))) scaled-near.0)

-- ---- on linear scale: ends of at most 2 ^ 52 in size
pub back-linear : (lo hi u : Float) → Within (fin false 1 (pos 52)) lo → Within (fin false 1 (pos 52)) hi → T (le lo hi) → Between (of_bits binary64 0) one u
    → Between (sub binary64 lo one) (add binary64 hi one) (scaled lo hi u)
unfolding add of_int
back-linear lo hi u p q h w = scaled-near (fin false 1 (pos 52)) lo hi tt p q h u w 54 one tt

pub back-linear-low : (lo hi u : Float) → Within (fin false 1 (pos 52)) lo → Within (fin false 1 (pos 52)) hi → T (le lo hi) → Between (of_bits binary64 0) one u
    → T (fits binary64 lo) → T (le lo (scaled lo hi u))
unfolding add
back-linear-low lo hi u p q h w = scaled-low (fin false 1 (pos 52)) lo hi tt p q h u w

-- ---- on log scale: ends of at most 36.05 in size; what is scaled is at most 36.3
pub back-log : (lo hi u : Float) → Within (of_bits binary64 0x4042066666666666) lo → Within (of_bits binary64 0x4042066666666666) hi → T (le lo hi) → Between (of_bits binary64 0) one u
    → Between (sub binary64 lo one) (add binary64 hi one) (scaled lo hi u) × Within (of_bits binary64 0x4042266666666666) (scaled lo hi u)
unfolding add of_int of_bits le
back-log lo hi u p q h w =
    let b = of_bits binary64 0x4042066666666666 in
    (scaled-near b lo hi tt p q h u w 7 one tt, scaled-within b lo hi tt p q h u w 7 (fin false 1 (negsuc 46)) tt (of_bits binary64 0x4042266666666666) tt)
