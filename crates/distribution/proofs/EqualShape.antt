-- A distribution that equals a well-formed one is well-formed. The two quotients (high - low) / step are one float, or zeros. Assumes nothing.
use Rattle.std.specs.Prelude.{Option, Some, None}
use Rattle.std.specs.Option.{option_eq}
use Rattle.std.specs.Ordering.{int_eq}
use Rattle.std.proofs.lemmas.Bool.Decides.{Decides-int_eq}
use mathlib.Core.Path.{◌≡◌, refl, sym, ap, ap₂, subst, ◌∙◌}
use mathlib.Core.Logic.{inl, inr}
use Prim.Native.Nat.{ℕ, zero, suc, ◌*◌, ◌<◌}
use native.Mathlib.Nat.{mul_comm, mul_assoc, mul_left_comm, mul-pos, zero-mul, zero-lt-suc, lt_irrefl}
use native.Mathlib.Omega.{arith}
use mathlib.Core.Bool.{Bool, true, false, ◌||◌, beq, cond}
use lib.Dec.{T, not_T, ltb→lt, eqb, eqb→eq}
use lib.IntN.{ℤ, pos, negsuc}
use lib.Ieee.{Float, nan, inf, fin, binary64, up, down, unlike, round, neg, add, sub, div, le, eq}
use lib.Ieee.Bits.{cond_no, is_true}
use lib.Ieee.Fits.{and_l, and_r, up_pos, down_pos}
use lib.Ieee.Scale.{finite, round_same}
use lib.Ieee.Positive.{positive, above, above_of_le}
use Rattle.arith.specs.Bounds.{Within}
use Rattle.arith.specs.Rounding.{floor_of}
use Rattle.arith.proofs.Order as order
use Rattle.arith.proofs.Mono.{zero-round, sub-left, add_right, neg-finite}
use Rattle.arith.proofs.Tests.{or_split}
use Rattle.arith.proofs.Within as sizes
use Rattle.distribution.specs.declared.CategoricalDistribution.{CategoricalDistribution}
use Rattle.distribution.specs.declared.Distribution.{Distribution}
use Rattle.distribution.specs.Shape.{power, float_shape, int_shape, categorical_shape, shape_of}
use Rattle.distribution.specs.Equal.{number_equal, equal_of}
use Rattle.distribution.specs.Numbers.{FloatDistribution, IntDistribution}
use Rattle.distribution.proofs.Facts.{parts, FloatStepRules, FloatRules, float-rules, rules-float}
use Rattle.distribution.proofs.Equals.{eq-sym, eq-le, le-eq, beq-is}

-- ---- the difference

module _ (x x' y y' : Float) (F : T (finite x)) (F' : T (finite x')) (G : T (finite y)) (G' : T (finite y')) where
  sub-mono : T (le x x') → T (le y' y) → T (le (sub binary64 x y) (sub binary64 x' y'))
  unfolding sub
  sub-mono h k =
      order.le_trans (sub binary64 x y) (sub binary64 x' y) (sub binary64 x' y') (sub-left x x' y F F' G h)
      (add_right x' (neg y) (neg y') F' (neg-finite y G) (neg-finite y' G') (order.neg-anti y' y k))

sub-eq : (x x' y y' : Float) → T (finite x) → T (finite x') → T (finite y) → T (finite y') → T (eq x x') → T (eq y y') → T (eq (sub binary64 x y) (sub binary64 x' y'))
sub-eq x x' y y' F F' G G' h k =
    le-eq (sub binary64 x y) (sub binary64 x' y') (sub-mono x x' y y' F F' G G' (eq-le x x' h) (eq-le y' y (eq-sym y y' k)))
    (sub-mono x' x y' y F' F G' G (eq-le x' x (eq-sym x x' h)) (eq-le y y' k))

-- ---- the quotient

over : (p : Bool) (m : ℕ) (e : ℤ) (n : ℕ) (d : ℤ) → 0 < n → div binary64 (fin p m e) (fin false n d) ≡ round binary64 (unlike p false) (m * up e * down d) (n * up d * down e)
unfolding div
over p m e n d N =
    cond_no (eqb n 0) (cond (eqb m 0) nan (inf (unlike p false))) (round binary64 (unlike p false) (m * up e * down d) (n * up d * down e))
    (not_T (eqb n 0) (λ t. let z = eqb→eq n 0 t in omega arith))

zero-floor : (p : Bool) → T (le (floor_of (fin p 0 (pos 0))) (power (pos 52)))
unfolding floor_of le round
zero-floor true = tt
zero-floor false = tt

-- a product of two numbers, each written as two fractions
cross : (a a' b b' c c' d d' : ℕ) → a * c' ≡ a' * c → b * d' ≡ b' * d → a * d * (b' * c') ≡ a' * d' * (b * c)
cross a a' b b' c c' d d' p q = simp (mul_comm, mul_assoc, mul_left_comm) (simp (mul_assoc, mul_left_comm) at (ap₂ ◌*◌ p (sym q)))

-- the numerator is zero
zero-over : (p : Bool) (m : ℕ) (e : ℤ) (n : ℕ) (d : ℤ) → 0 < n → m * up e ≡ 0 → T (le (floor_of (div binary64 (fin p m e) (fin false n d))) (power (pos 52)))
zero-over p m e n d N z =
    rw (over p m e n d N, zero-round (unlike p false) (m * up e * down d) (n * up d * down e) (mul-pos (mul-pos N (up_pos d)) (down_pos e)) (ap (λ (x : ℕ). x * down d) z ∙ zero-mul (down d)))
    (zero-floor (unlike p false))

-- a * c is zero for a c above 0
factor : (a c : ℕ) → 0 < c → a * c ≡ 0 → a ≡ 0
factor zero c C h = refl
factor (suc a) c C h = absurd (lt_irrefl 0 (subst (λ (x : ℕ). 0 < x) h (mul-pos (zero-lt-suc a) C)))

count-eq : (u u' s s' : Float) → T (finite u) → T (finite u') → T (positive s) → T (positive s') → T (eq u u') → T (eq s s')
    → T (le (floor_of (div binary64 u s)) (power (pos 52))) → T (le (floor_of (div binary64 u' s')) (power (pos 52)))
unfolding eq
count-eq nan u' s s' F F' P P' h k t = absurd F
count-eq (inf p) u' s s' F F' P P' h k t = absurd F
count-eq (fin p m e) nan s s' F F' P P' h k t = absurd F'
count-eq (fin p m e) (inf p') s s' F F' P P' h k t = absurd F'
count-eq (fin p m e) (fin p' m' e') nan s' F F' P P' h k t = absurd P
count-eq (fin p m e) (fin p' m' e') (inf q) s' F F' P P' h k t = absurd P
count-eq (fin p m e) (fin p' m' e') (fin true n d) s' F F' P P' h k t = absurd P
count-eq (fin p m e) (fin p' m' e') (fin false n d) nan F F' P P' h k t = absurd P'
count-eq (fin p m e) (fin p' m' e') (fin false n d) (inf q) F F' P P' h k t = absurd P'
count-eq (fin p m e) (fin p' m' e') (fin false n d) (fin true n' d') F F' P P' h k t = absurd P'
count-eq (fin p m e) (fin p' m' e') (fin false n d) (fin false n' d') F F' P P' h k t =
    let x = m * up e * down e' in
    let x' = m' * up e' * down e in
    let a = eqb→eq x x' (and_l (eqb x x') (beq p p' || eqb x 0) h) in
    let N = ltb→lt 0 n P in
    let N' = ltb→lt 0 n' P' in
    let b = eqb→eq (n * up d * down d') (n' * up d' * down d) (and_l (eqb (n * up d * down d') (n' * up d' * down d)) true k) in
    elim (or_split (beq p p') (eqb x 0) (and_r (eqb x x') (beq p p' || eqb x 0) h)) [
      | inl same ↦ subst (λ (z : Float). T (le (floor_of z) (power (pos 52))))
          (over p m e n d N
          ∙ round_same binary64 (unlike p false) (m * up e * down d) (n * up d * down e) (m' * up e' * down d') (n' * up d' * down e') (mul-pos (mul-pos N (up_pos d)) (down_pos e)) (mul-pos (mul-pos N' (up_pos d')) (down_pos e'))
          (cross (m * up e) (m' * up e') (n * up d) (n' * up d') (down e) (down e') (down d) (down d') a b)
          ∙ ap (λ (q : Bool). round binary64 (unlike q false) (m' * up e' * down d') (n' * up d' * down e')) (beq-is p p' same)
          ∙ sym (over p' m' e' n' d' N'))
          t
      | inr z ↦ zero-over p' m' e' n' d' N' (factor (m' * up e') (down e) (down_pos e) (sym a ∙ eqb→eq x 0 z))
    ]

-- ---- the shape

size-eq : (b x y : Float) → T (eq x y) → Within b x → Within b y
size-eq b x y h w =
    sizes.within b y (order.le_trans y x b (eq-le y x (eq-sym x y h)) (sizes.upper b x w)) (order.le_trans (neg b) x y (sizes.lower b x w) (eq-le x y h))

finite-eq : (x y : Float) → T (eq x y) → T (finite x) → T (finite y)
unfolding eq
finite-eq nan y h F = absurd F
finite-eq (inf s) y h F = absurd F
finite-eq (fin s m e) nan h F = absurd h
finite-eq (fin s m e) (inf t) h F = absurd h
finite-eq (fin s m e) (fin t n d) h F = tt

positive-step : (x : Float) → T (le (power (negsuc 51)) x) → T (finite x) → T (positive x)
positive-step x h F = go x (above_of_le (power (negsuc 51)) x tt h) F
  where
    go : (x : Float) → T (above x) → T (finite x) → T (positive x)
    go nan a F = a
    go (inf s) a F = F
    go (fin true m e) a F = a
    go (fin false m e) a F = a

size-finite : (x : Float) → Within (power (pos 52)) x → T (finite x)
size-finite x w = sizes.within-finite (power (pos 52)) x tt w

sub-finite : (x y : Float) → Within (power (pos 52)) x → Within (power (pos 52)) y → T (finite (sub binary64 x y))
unfolding add le
sub-finite x y v w = sizes.within-finite (power (pos 53)) (sub binary64 x y) tt (sizes.sub_in binary64 (power (pos 52)) (power (pos 52)) (power (pos 53)) x y tt v w)

-- what equals a step is one
equal-step : {A : Type 0} (e : A → A → Bool) (p : Option A) (y : A) → T (option_eq e p (Some y)) → (x : A) × (p ≡ Some x) × T (e x y)
equal-step e None y t = absurd t
equal-step e (Some x) y t = (x, refl, t)

module _ (a b : FloatDistribution) (s : T (number_equal eq a b)) (r : FloatRules a) where
  low-eq : T (eq a.low b.low)
  low-eq = search parts

  high-eq : T (eq a.high b.high)
  high-eq = search parts

  low : Within (power (pos 52)) b.low
  low = size-eq (power (pos 52)) a.low b.low low-eq r.low

  high : Within (power (pos 52)) b.high
  high = size-eq (power (pos 52)) a.high b.high high-eq r.high

  step-rules : (x y : Float) → T (eq x y) → FloatStepRules a.low a.high x → FloatStepRules b.low b.high y
  step-rules x y e q =
      let l = order.le_trans (power (negsuc 51)) x y q.least (eq-le x y e) in
      let f = finite-eq x y e q.finite in
      record {
        least = l;
        finite = f;
        count =
            count-eq (sub binary64 a.high a.low) (sub binary64 b.high b.low) x y (sub-finite a.high a.low r.high r.low) (sub-finite b.high b.low high low)
            (positive-step x q.least q.finite) (positive-step y l f)
            (sub-eq a.high b.high a.low b.low (size-finite a.high r.high) (size-finite b.high high) (size-finite a.low r.low) (size-finite b.low low) high-eq low-eq)
            e q.count;
      }

  float-equal-shape : T (float_shape b)
  float-equal-shape =
      rules-float b (record {
        low = low;
        high = high;
        order = order.le_trans b.low a.low b.high (eq-le b.low a.low (eq-sym a.low b.low low-eq))
            (order.le_trans a.low a.high b.high r.order (eq-le a.high b.high high-eq));
        log = λ h. order.le_trans (power (negsuc 51)) a.low b.low (r.log (subst T (sym (beq-is a.log_scale b.log_scale (search parts))) h)) (eq-le a.low b.low low-eq);
        steps = λ y g. let q = equal-step eq a.step y (subst (λ (o : Option Float). T (option_eq eq a.step o)) g (search parts)) in step-rules q.0 y q.2 (r.steps q.0 q.1);
      })

-- an int's fields are the same
int-is : (x y : ℤ) → T (int_eq x y) → x ≡ y
int-is x y t = (Decides-int_eq x y).0 (is_true (int_eq x y) t)

step-is : (p q : Option ℤ) → T (option_eq int_eq p q) → p ≡ q
step-is None None t = refl
step-is None (Some y) t = absurd t
step-is (Some x) None t = absurd t
step-is (Some x) (Some y) t = ap Some (int-is x y t)

int-equal : (a b : IntDistribution) → T (number_equal int_eq a b) → a ≡ b
int-equal a b s =
    let low = int-is a.low b.low (search parts) in
    let high = int-is a.high b.high (search parts) in
    let log = beq-is a.log_scale b.log_scale (search parts) in
    let step = step-is a.step b.step (search parts) in
    λ i. record { low = low i; high = high i; log_scale = log i; step = step i }

pub equal-shape : (a b : Distribution) → T (equal_of a b) → T (shape_of a) → T (shape_of b)
unfolding equal_of shape_of
equal-shape (Distribution.Float a) (Distribution.Float b) e t = float-equal-shape a b e (float-rules a t)
equal-shape (Distribution.Float a) (Distribution.Int b) e t = absurd e
equal-shape (Distribution.Float a) (Distribution.Categorical b) e t = absurd e
equal-shape (Distribution.Int a) (Distribution.Float b) e t = absurd e
equal-shape (Distribution.Int a) (Distribution.Int b) e t = subst (λ (x : IntDistribution). T (int_shape x)) (int-equal a b e) t
equal-shape (Distribution.Int a) (Distribution.Categorical b) e t = absurd e
equal-shape (Distribution.Categorical a) (Distribution.Float b) e t = absurd e
equal-shape (Distribution.Categorical a) (Distribution.Int b) e t = absurd e
equal-shape (Distribution.Categorical a) (Distribution.Categorical b) e t =
    subst (λ (x : CategoricalDistribution). T (categorical_shape x)) (λ i. record { n_choices = eqb→eq a.n_choices b.n_choices e i }) t
