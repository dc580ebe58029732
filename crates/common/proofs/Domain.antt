-- Nothing saturates where a value is decoded or drawn: the steps of an int fit, for each value that decoding accepts and each that a draw on log scale gives. A step is from 2 ^ a to 2 ^ (a + 1), so a quotient by it is at most 2 ^ (58 - a) in size, a whole number, and stays so when rounded.
use Rattle.refusal.specs.declared.Refusal.{Refusal}
use Rattle.std.specs.Prelude.{Result, Ok, Err, Some, Option, None, IfSome}
use mathlib.Core.Path.{◌≡◌, refl, sym, ap, ◌∙◌, subst}
use Prim.Native.Nat.{ℕ, zero, suc, ◌+◌, ◌-◌, ◌*◌, ◌/◌, ◌^◌, ◌≤◌, ◌<◌, min}
use native.Mathlib.Nat.{le_trans, le_of_eq, lt_of_le_of_lt, lt_of_lt_of_le, le_of_lt, mul-one, one-mul, mul_assoc, mul_comm, mul_left_comm, mul-le-mul, mul-le-mul_right, mul-pos, suc-mul, zero-lt-suc, le_of_suc-le-suc, div-lt_iff_lt-mul, div-le_of_le-mul}
use native.Mathlib.Omega.{arith}
use mathlib.Core.Bool.{Bool, true, false, ◌&&◌, cond}
use borrow.Author.Tests.{eqb-false}
use lib.Dec.{T, eqb, ltb, ltb→lt, lt→ltb, leb→le, lit<}
use lib.Pow.{pow-add, pow_pos, pow-lt}
use lib.IntN.{ℤ, pos, negsuc, neg_ℤ, nat_abs, ◌+ℤ◌, ◌*ℤ◌}
use lib.Signed.{le_z}
use lib.Ieee.{Float, nan, inf, fin, binary64, up, down, size, round, add, sub, div, neg, le, fits, of_bits, of_int, to_signed}
use lib.Ieee.Digits.{size-lt, size_reaches, size-le}
use lib.Ieee.Fits.{down_pos, and_i, and_l, and_r}
use lib.Ieee.Order.{round_mono}
use lib.Ieee.Scale.{round_same}
use mir.Syntax.{w64}
use mir.Val.{SFits}
use Rattle.arith.specs.Bounds.{abs, Within, Between}
use Rattle.arith.specs.Rounding.{nearest_of, round_of}
use Rattle.arith.proofs.Order as order
use Rattle.arith.proofs.Within.{bound, widen, cross, abs-round, div-within, add-in, sub_in, within, within-finite, upper, lower}
use Rattle.arith.proofs.Held.{held}
use Rattle.exponential.proofs.ExpLaws.{exp-decoded, exp-drawn}
use Rattle.arith.proofs.Back.{back-linear, back-log}
use Rattle.refusal.specs.declared.Refusal.TheVariants.{OutOfDomain}
use Rattle.rng_util.specs.Draws.{unit_of, read_by, word_draw_of, unit_draw_of}
use Rattle.rng_util.specs.Generator.{next_of}
use Rattle.rng_util.proofs.Nonzero.{Nonzero, next-nonzero}
use Rattle.rng_util.proofs.Unit as unit
use Rattle.distribution.specs.Numbers.{IntDistribution}
use Rattle.distribution.specs.declared.Distribution.{Distribution}
use Rattle.distribution.specs.Shape.{power, shape_of, int_shape, continuous_of}
use Rattle.distribution.proofs.Facts.{Bounded, IntRules, if-some, int-rules}
use Rattle.encoding.specs.Bounds.{InternalBounds, bounds_of}
use Rattle.common.specs.Decode.{inside, one, unscale_of}
use Rattle.common.specs.DecodeParts.{Decodable}
use Rattle.std.specs.Option.{option_map_or}
use Rattle.common.specs.Grid.{round_z, saturated, steps_to, int_grid}
use Rattle.common.specs.GridParts.{StepFits, GridFits, OutcomeFits}
use Rattle.common.specs.Random.{range_of, log_range}
use Rattle.common.specs.RandomParts.{LogFits}
use Rattle.common.proofs.Saturate.{exact}
use Rattle.encoding.proofs.EndLaws.{FloatsFit, on_log_scale, limit, EndRules, HasEnds, bounds, whole-within}

-- ---- powers of two

power-fits : (j : ℕ) → j < 1024 → T (fits binary64 (power (pos j)))
unfolding fits
power-fits j h = lt→ltb (1 * 2 ^ j) (2 ^ 1024 * 1) (lt_of_le_of_lt (le_of_eq (one-mul (2 ^ j))) (lt_of_lt_of_le (pow-lt h) (le_of_eq (sym (mul-one (2 ^ 1024))))))

power-round : (j : ℕ) → j < 1024 → round binary64 false (2 ^ j) 1 ≡ power (pos j)
power-round j h = ap (λ (n : ℕ). round binary64 false n 1) (sym (one-mul (2 ^ j))) ∙ held binary64 false 1 (pos j) (power-fits j h)

-- ---- a value of at most 2 ^ j in size, as a whole number

magnitude-neg : (n : ℕ) → nat_abs (neg_ℤ (pos n)) ≡ n
magnitude-neg zero = refl
magnitude-neg (suc n) = refl

module _ (j : ℕ) (J : j < 1024) where
  size_of : (s : Bool) (m : ℕ) (e : ℤ) → Within (power (pos j)) (fin s m e) → m * up e ≤ 2 ^ j * down e
  size_of s m e w = le_trans (le_of_eq (sym (mul-one (m * up e)))) (le_trans (cross m e 1 (pos j) w) (le_of_eq (ap (λ (n : ℕ). n * down e) (one-mul (2 ^ j)))))

  nearest-within : (x : Float) → Within (power (pos j)) x → nearest_of x ≤ 2 ^ j
  unfolding nearest_of le
  nearest-within nan w = absurd w
  nearest-within (inf s) w = absurd w
  nearest-within (fin s m e) w = le_of_suc-le-suc ((div-lt_iff_lt-mul (mul-pos (zero-lt-suc 1) (down_pos e))).1 (below (m * up e) (down e) (2 ^ j) (down_pos e) (size_of s m e w)))
    where
      below : (n d p : ℕ) → 0 < d → n ≤ p * d → 2 * n + d < suc p * (2 * d)
      below n d p D h = let b : suc p * (2 * d) ≡ p * d * 2 + 2 * d = simp (suc-mul, mul_assoc, mul_comm, mul_left_comm) in omega arith

  pub round-within : (x : Float) → Within (power (pos j)) x → Within (power (pos j)) (round_of x)
  unfolding round_of le
  round-within nan w = absurd w
  round-within (inf s) w = absurd w
  round-within (fin s m e) w =
      rw (abs-round binary64 s (nearest_of (fin s m e)) 1, ← power-round j J)
      (round_mono binary64 (nearest_of (fin s m e)) 1 (2 ^ j) 1 (zero-lt-suc 0) (zero-lt-suc 0) (mul-le-mul_right 1 (nearest-within (fin s m e) w)))

  cut-within : (y : Float) → Within (power (pos j)) y → nat_abs (to_signed 63 y) ≤ 2 ^ j
  unfolding to_signed le
  cut-within nan w = absurd w
  cut-within (inf s) w = absurd w
  cut-within (fin s m e) w = go s (m * up e / down e) (div-le_of_le-mul (down e) (le_trans (size_of s m e w) (le_of_eq (mul_comm (2 ^ j) (down e)))))
    where
      go : (s : Bool) (n : ℕ) → n ≤ 2 ^ j → nat_abs (cond s (neg_ℤ (pos (min n (2 ^ 63)))) (pos (min n (2 ^ 63 - 1)))) ≤ 2 ^ j
      go true n h = rw (magnitude-neg (min n (2 ^ 63))) (omega arith)
      go false n h = omega arith

  pub round-magnitude : (x : Float) → Within (power (pos j)) x → nat_abs (round_z x) ≤ 2 ^ j
  round-magnitude x w = cut-within (round_of x) (round-within x w)

-- ---- a quotient by a step, times the step

div_power : (a : ℕ) → a ≤ 58 → div binary64 (power (pos 58)) (power (pos a)) ≡ power (pos (58 - a))
unfolding div
div_power a h =
    round_same binary64 false (1 * 2 ^ 58 * 1) (1 * 2 ^ a * 1) (2 ^ (58 - a)) 1 (mul-pos (mul-pos (zero-lt-suc 0) (pow_pos a)) (zero-lt-suc 0)) (zero-lt-suc 0)
    (ap (λ (k : ℕ). 2 ^ k) {x = 58} {y = 58 - a + a} (omega arith) ∙ pow-add 2 (58 - a) a ∙ ap (λ (n : ℕ). 2 ^ (58 - a) * n) (sym (mul-one (1 * 2 ^ a) ∙ one-mul (2 ^ a))))
    ∙ power-round (58 - a) (omega arith)

magnitude-product : (k : ℤ) (n : ℕ) → nat_abs (k *ℤ pos n) ≡ nat_abs k * n
magnitude-product (pos k) n = refl
magnitude-product (negsuc k) n = magnitude-neg (suc k * n)

magnitude-sum : (a b : ℤ) → nat_abs (a +ℤ b) ≤ nat_abs a + nat_abs b
magnitude-sum (pos a) (pos b) = omega arith
magnitude-sum (negsuc a) (negsuc b) = omega arith
magnitude-sum (pos a) (negsuc b) = go (ltb a (suc b)) (ltb→lt a (suc b))
  where
    go : (t : Bool) → (T t → a < suc b) → nat_abs (cond t (negsuc (suc b - suc a)) (pos (a - suc b))) ≤ a + suc b
    go true h = let k = h tt in omega arith
    go false h = omega arith
magnitude-sum (negsuc a) (pos b) = go (ltb b (suc a)) (ltb→lt b (suc a))
  where
    go : (t : Bool) → (T t → b < suc a) → nat_abs (cond t (negsuc (suc a - suc b)) (pos (b - suc a))) ≤ suc a + b
    go true h = let k = h tt in omega arith
    go false h = omega arith

fits-64 : (z : ℤ) → nat_abs z < 2 ^ 63 → SFits w64 z
fits-64 (pos n) h = record { sfits = h }
fits-64 (negsuc n) h = record { sfits = omega arith }

-- n is from 2 ^ digits to 2 ^ (digits + 1)
record Leading (n : ℕ) : Type 0 where
  digits : ℕ
  few : digits ≤ 52
  least : 2 ^ digits ≤ n
  most : n < 2 ^ suc digits

leading : (n : ℕ) → 1 ≤ n → n ≤ 2 ^ 52 → Leading n
leading n h k = go (size n) refl
  where
    go : (s : ℕ) → size n ≡ s → Leading n
    go zero e = absurd (let l : n < 2 ^ 0 = subst (λ (s : ℕ). n < 2 ^ s) e (size-lt n) in no l)
      where
        no : n < 1 → ⊥
        no l = omega arith
    go (suc a) e = record {
      digits = a;
      few = omega (arith, size-le n 53 (lt_of_le_of_lt k (lit< tt)));
      least = size_reaches n a (omega arith);
      most = subst (λ (s : ℕ). n < 2 ^ s) e (size-lt n);
    }

step-least : (a n : ℕ) → a ≤ 52 → 2 ^ a ≤ n → T (le (power (pos a)) (abs (of_int binary64 (pos n))))
unfolding of_int
step-least a n h k = rw (abs-round binary64 false n 1, ← power-round a (omega arith)) (round_mono binary64 (2 ^ a) 1 n 1 (zero-lt-suc 0) (zero-lt-suc 0) (mul-le-mul_right 1 k))

quotient-within : (a n : ℕ) (x : Float) → a ≤ 52 → 2 ^ a ≤ n → Bounded (2 ^ 52) (pos n) → Within (power (pos 58)) x → Within (power (pos (58 - a))) (div binary64 x (of_int binary64 (pos n)))
quotient-within a n x h k b w =
    let y = of_int binary64 (pos n) in
    rw (← div_power a (omega arith)) (div-within binary64 1 1 (pos 58) (pos a) x y (zero-lt-suc 0) (within-finite (power (pos 52)) y tt (whole-within (pos n) b)) w (step-least a n h k))

steps-magnitude : (x : Float) (z : ℤ) → Within (power (pos 58)) x → Bounded (2 ^ 52) z → T (le_z (pos 1) z) → nat_abs (round_z (div binary64 x (of_int binary64 z)) *ℤ z) ≤ 2 ^ 59
steps-magnitude x (negsuc n) w b l = absurd l
steps-magnitude x (pos n) w b l =
    let r = leading n (leb→le 1 n l) b.magnitude in
    let a = r.digits in
    let q = div binary64 x (of_int binary64 (pos n)) in
    let k : nat_abs (round_z q) ≤ 2 ^ (58 - a) = round-magnitude (58 - a) (omega arith) q (quotient-within a n x r.few r.least b w) in
    rw (magnitude-product (round_z q) n) (le_trans (mul-le-mul k (le_of_lt r.most)) (le_of_eq (sym (pow-add 2 (58 - a) (suc a)) ∙ ap (λ (i : ℕ). 2 ^ i) {x = 58 - a + suc a} {y = 59} (omega (arith, r.few)))))

-- ---- the grid of an int, at a value of at most 2 ^ 57 in size

pub steps-fit : (d : IntDistribution) (v : Float) → T (int_shape d) → Within (power (pos 57)) v → GridFits d v
steps-fit d v t w = if-some d.step (λ step. StepFits d.low step v) (λ step e. fit step (few step (r.steps step e)))
  where
    r : IntRules d
    r = int-rules d t

    few : (step : ℤ) → Bounded (2 ^ 52) step × T (le_z (pos 1) step) → nat_abs (steps_to d.low step v *ℤ step) ≤ 2 ^ 59
    few step s =
        steps-magnitude (sub binary64 v (of_int binary64 d.low)) step
        (sub_in binary64 (power (pos 57)) (power (pos 52)) (power (pos 58)) v (of_int binary64 d.low) (unfold add le in tt) w (whole-within d.low r.low)) s.0 s.1

    fit : (step : ℤ) → nat_abs (steps_to d.low step v *ℤ step) ≤ 2 ^ 59 → StepFits d.low step v
    fit step f = record {
      product = fits-64 (steps_to d.low step v *ℤ step) (lt_of_le_of_lt f (lit< tt));
      sum = fits-64 (d.low +ℤ steps_to d.low step v *ℤ step) (let b = magnitude-sum d.low (steps_to d.low step v *ℤ step) in let c = r.low.magnitude in omega arith);
    }

-- and what the grid gives there is exact
pub int-grid : (d : IntDistribution) (v : Float) → GridFits d v → int_grid d v ≡ option_map_or (λ step. d.low +ℤ steps_to d.low step v *ℤ step) d.step (round_z v)
unfolding int_grid
int-grid d v f = go d.step f
  where
    go : (o : Option ℤ) → IfSome o (λ step. StepFits d.low step v)
        → option_map_or (λ step. saturated (d.low +ℤ saturated (steps_to d.low step v *ℤ step))) o (round_z v) ≡ option_map_or (λ step. d.low +ℤ steps_to d.low step v *ℤ step) o (round_z v)
    go None f = refl
    go (Some step) f = exact d.low step v f

-- ---- decoding

-- from lo - 1 to hi + 1, for ends of at most b in size
beyond : (b c lo hi x : Float) → T (bound b && bound one && le (add binary64 b one) c) → Within b lo → Within b hi → T (inside (Ok (Some (lo, hi))) x) → Within c x
beyond b c lo hi x t p q i =
    let least = sub binary64 lo one in
    let most = add binary64 hi one in
    within c x (order.le_trans x most c (and_r (le least x) (le x most) i) (upper c most (add-in binary64 b one c hi one t q (unfold of_int le in tt))))
    (order.le_trans (neg c) least x (lower c least (sub_in binary64 b one c lo one t p (unfold of_int le in tt))) (and_l (le least x) (le x most) i))

-- so an accepted value is at most 2 ^ 57 in size, on log scale 38.1
abbrev accepted : Bool → Float
accepted log = cond log (of_bits binary64 0x40430ccccccccccd) (power (pos 57))

inside-within : (log : Bool) (lo hi x : Float) → EndRules log lo hi → T (inside (Ok (Some (lo, hi))) x) → Within (accepted log) x
inside-within true lo hi x r i = beyond (limit true) (accepted true) lo hi x (unfold of_int of_bits add le in tt) r.low r.high i
inside-within false lo hi x r i = beyond (limit false) (accepted false) lo hi x (unfold of_int add le in tt) r.low r.high i

-- from a to b, which are from -c to c
positive-within : (a b c v : Float) → T (le (neg c) a && le b c) → Between a b v → Within c v
positive-within a b c v t r = within c v (order.le_trans v b c r.1 (and_r (le (neg c) a) (le b c) t)) (order.le_trans (neg c) a v (and_l (le (neg c) a) (le b c) t) r.0)

unscaled-within : (log : Bool) (x v : Float) → Within (accepted log) x → unscale_of log x ≡ Ok v → Within (power (pos 57)) v
unscaled-within true x v w e =
    let r = exp-decoded x w in
    let q : r.0 ≡ v = cc r.1 in
    subst (Within (power (pos 57))) q (positive-within (power (negsuc 55)) (power (pos 56)) (power (pos 57)) r.0 (unfold neg le in tt) r.2)
unscaled-within false x v w e = let q : x ≡ v = cc in subst (Within (power (pos 57))) q w

pub decodable : (x : Float) (d : Distribution) → T (shape_of d) → T (inside (bounds_of d) x) → Decodable x d
decodable x (Distribution.Float d) t i = tt
decodable x (Distribution.Int d) t i = go (unscale_of d.log_scale x) refl
  where
    r : HasEnds d.log_scale (bounds_of (Distribution.Int d))
    r = bounds (Distribution.Int d) tt tt t

    go : (o : Result Float Refusal) → unscale_of d.log_scale x ≡ o → OutcomeFits d o
    go (Ok v) e = steps-fit d v (unfold shape_of in t) (unscaled-within d.log_scale x v (inside-within d.log_scale r.lo r.hi x r.rules (subst (λ (b : InternalBounds). T (inside b x)) r.is i)) e)
    go (Err n) e = tt
decodable x (Distribution.Categorical d) t i = tt

-- ---- a unit float scaled to the ends

pub linear-range : (lo hi u : Float) → EndRules false lo hi → Between (of_bits binary64 0) one u → T (inside (Ok (Some (lo, hi))) (range_of lo hi u)) × Within (power (pos 53)) (range_of lo hi u)
linear-range lo hi u r b =
    let x = range_of lo hi u in
    let k = back-linear lo hi u r.low r.high r.order b in
    let i = and_i (le (sub binary64 lo one) x) (le x (add binary64 hi one)) k.0 k.1 in
    (i, beyond (limit false) (power (pos 53)) lo hi x (unfold of_int add le in tt) r.low r.high i)

-- decoding accepts it, and its value is at most 2 ^ 53 in size
pub record Unscaled (log : Bool) (lo hi u : Float) : Type 0 where
  pub accepted : T (inside (Ok (Some (lo, hi))) (range_of lo hi u))
  pub value : Float
  pub is : unscale_of log (range_of lo hi u) ≡ Ok value
  pub size : Within (power (pos 53)) value

pub unscaled : (log : Bool) (lo hi u : Float) → EndRules log lo hi → Between (of_bits binary64 0) one u → Unscaled log lo hi u
unscaled true lo hi u r b =
    let x = range_of lo hi u in
    let k = back-log lo hi u r.low r.high r.order b in
    let v = exp-drawn x k.1 in
    record {
      accepted = and_i (le (sub binary64 lo one) x) (le x (add binary64 hi one)) k.0.0 k.0.1;
      value = v.0;
      is = v.1;
      size = positive-within (power (negsuc 52)) (power (pos 53)) (power (pos 53)) v.0 (unfold neg le in tt) v.2;
    }
unscaled false lo hi u r b =
    let k = linear-range lo hi u r b in
    record { accepted = k.0; value = range_of lo hi u; is = refl; size = k.1 }

-- ---- a draw on log scale

pub record LogDrawn (d : Distribution) (u : Float) : Type 0 where
  pub value : Float
  pub is : log_range (bounds_of d) u ≡ Ok value
  pub size : Within (power (pos 53)) value

pub log-drawn : (d : Distribution) → T (continuous_of d) → FloatsFit d → T (shape_of d) → on_log_scale d ≡ true → (u : Float) → Between (of_bits binary64 0) one u → LogDrawn d u
log-drawn d c f t l u b =
    let r = bounds d c f t in
    let v = unscaled true r.lo r.hi u (subst (λ (g : Bool). EndRules g r.lo r.hi) l r.rules) b in
    record { value = v.value; is = ap (λ (g : InternalBounds). log_range g u) r.is ∙ v.is; size = v.size }

pub log-steps : (d : IntDistribution) (u : Float) → T (int_shape d) → d.log_scale ≡ true → Between (of_bits binary64 0) one u → OutcomeFits d (log_range (bounds_of (Distribution.Int d)) u)
log-steps d u t l b =
    let v = log-drawn (Distribution.Int d) tt tt (unfold shape_of in t) l u b in
    subst (OutcomeFits d) (sym v.is) (steps-fit d v.value t (widen (power (pos 53)) (power (pos 57)) v.value (unfold le in tt) v.size))

-- a unit float is from 0 to 1
pub unit-between : (w : ℕ) → Nonzero w → Between (of_bits binary64 0) one (unit_of (next_of w))
unit-between w h =
    let n = (next-nonzero w h).1 in
    (unit.unit-nonnegative (next_of w) n, order.le_of_lt (unit_of (next_of w)) one (unit.unit-below-one (next_of w) n))

pub log-fits : (w : ℕ) (d : IntDistribution) → w < 2 ^ 64 → T (int_shape d) → d.log_scale ≡ true → LogFits w d
log-fits w d h t l r e = log-steps d r.value t l (go (eqb w 0) refl (unfold unit_draw_of word_draw_of in e))
  where
    go : (b : Bool) → eqb w 0 ≡ b → read_by unit_of (cond b (Err OutOfDomain) (Ok (record { value = next_of w; drawn = 1; next = next_of w }))) ≡ Ok r → Between (of_bits binary64 0) one r.value
    go true n q = absurd (cc)
    go false n q =
        let v : unit_of (next_of w) ≡ r.value = cc in
        let z = eqb-false w 0 n in
        subst (Between (of_bits binary64 0) one) v (unit-between w (omega arith, h))
