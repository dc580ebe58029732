-- What the codings give, over their definitions. A random value is accepted, takes one word and is in range; a unit float scaled to the ends decodes to a value in range; a taken value is encoded, and its normalised form is at most 1e32 in size.
use Rattle.std.specs.Prelude.{Result, Ok, Some}
use Rattle.refusal.specs.declared.Refusal.{Refusal}
use Rattle.arith.specs.Outcome.{made}
use Rattle.rng_util.specs.declared.Draw.{Draw}
use mathlib.Core.Path.{◌≡◌, ap, ◌∙◌, subst}
use Prim.Native.Nat.{ℕ, ◌+◌, ◌-◌, ◌*◌, ◌/◌, ◌^◌, ◌≤◌, ◌<◌}
use native.Mathlib.Nat.{le_trans, mul-le-mul_right, div-mul-le_self, div-le_self, mod-eq_of_lt}
use native.Mathlib.Omega.{arith}
use mathlib.Core.Bool.{Bool, true, false, not, ◌&&◌, cond}
use lib.Dec.{T, T_not, le→leb, lt→ltb}
use lib.IntN.{ℤ, pos, negsuc, nat_abs, ◌+ℤ◌, ◌-ℤ◌, ◌*ℤ◌}
use lib.Signed.{le_z, lt_z, quot_z}
use lib.Ieee.{Float, binary64, add, sub, mul, div, lt, le, fits, is_nan, of_bits, of_int}
use lib.Ieee.Bits.{is_true}
use lib.Ieee.Fits.{and_i}
use lib.Ieee.Scale.{finite}
use Rattle.arith.proofs.Tests.{taken as holds, untaken, by-test}
use Rattle.arith.specs.Bounds.{real, abs, Within, Between}
use Rattle.arith.proofs.Order as order
use Rattle.arith.proofs.Within.{bound, sub_in, div-in, widen, within-finite, upper}
use Rattle.logarithm.proofs.LnLaws.{ln-taken}
use Rattle.rng_util.specs.Generator.{next_of}
use Rattle.rng_util.specs.Draws.{range_ok, unit_of, whole_of, read_by, word_draw_of, unit_draw_of, whole_draw_of}
use Rattle.rng_util.proofs.Nonzero.{Nonzero, nonzero-test}
use Rattle.rng_util.proofs.Whole as whole
use Rattle.distribution.specs.Numbers.{FloatDistribution, IntDistribution}
use Rattle.distribution.specs.declared.CategoricalDistribution.{CategoricalDistribution}
use Rattle.distribution.specs.declared.Distribution.{Distribution}
use Rattle.distribution.specs.declared.ParamValue.{ParamValue}
use Rattle.distribution.specs.Shape.{power, float_shape, int_shape, shape_of, continuous_of}
use Rattle.distribution.specs.Range.{in_range}
use Rattle.distribution.specs.Taken.{taken_of}
use Rattle.distribution.proofs.Facts.{float-rules, int-rules, categorical-rules, float-taken, int-taken, by-step}
use Rattle.encoding.specs.Bounds.{scale_of, bounds_of}
use Rattle.common.specs.Decode.{one, inside, float_of, int_of, decoded_of, from_internal_of}
use Rattle.encoding.specs.Encode.{to_internal_of}
use Rattle.common.specs.Grid.{clamp_of, float_grid, int_grid}
use Rattle.common.specs.Random.{drawing, range_of, log_range, log_float_random, stepped_float_random, linear_float_random, unclamped_random, float_random, log_int_random, stepped_int_random, linear_int_random, int_random, categorical_random, random_of, sample_random_of}
use Rattle.encoding.proofs.EndLaws.{FloatFits, FloatsFit, on_log_scale, limit, EndRules, Scalable, scaled, looser, whole-scalable, end-rules, has-ends}
use Rattle.common.proofs.Domain.{linear-range, unscaled, unit-between, log-drawn}
use Rattle.common.proofs.Clamp.{clamp-between, clamp-whole, float-grid-real}
use Rattle.common.proofs.Steps.{in-range, up_to}
use Rattle.common.proofs.FloatSteps.{float-steps}

-- ---- a unit float scaled to the ends, and decoded

-- a number clamped is from low to high
clamped : (d : FloatDistribution) (v : Float) → T (float_shape d) → real v → T (in_range (Distribution.Float d) (ParamValue.Float (clamp_of lt d.low d.high v)))
clamped d v t r = let b = clamp-between d.low d.high v r (float-rules d t).order in and_i (le d.low (clamp_of lt d.low d.high v)) (le (clamp_of lt d.low d.high v) d.high) b.0 b.1

clamped-whole : (d : IntDistribution) (z : ℤ) → T (int_shape d) → T (in_range (Distribution.Int d) (ParamValue.Int (clamp_of lt_z d.low d.high z)))
clamped-whole d z t = let b = clamp-whole d.low d.high z (int-rules d t).order in and_i (le_z d.low (clamp_of lt_z d.low d.high z)) (le_z (clamp_of lt_z d.low d.high z) d.high) b.0 b.1

-- the grid of a float gives a number
on-grid : (d : FloatDistribution) (v : Float) → T (float_shape d) → Within (power (pos 53)) v → real (float_grid d v)
on-grid d v t w = float-grid-real d v t (widen (power (pos 53)) (power (pos 57)) v (unfold le in tt) w)

pub record Decoded (x : Float) (d : Distribution) : Type 0 where
  pub value : ParamValue
  pub is : from_internal_of x d ≡ Ok value
  pub range : T (in_range d value)

from-internal : (x : Float) (d : Distribution) (lo hi : Float) → bounds_of d ≡ Ok (Some (lo, hi)) → T (inside (Ok (Some (lo, hi))) x) → from_internal_of x d ≡ decoded_of x d
unfolding from_internal_of
from-internal x d lo hi e i = rw (e, is_true (inside (Ok (Some (lo, hi))) x) i)

pub decode-accepted : (d : Distribution) → FloatsFit d → T (shape_of d) → (lo hi : Float) → bounds_of d ≡ Ok (Some (lo, hi)) → (u : Float) → Between (of_bits binary64 0) one u → Decoded (range_of lo hi u) d
decode-accepted (Distribution.Float d) f t lo hi e u b =
    let s = unscaled d.log_scale lo hi u (end-rules (Distribution.Float d) f t lo hi e) b in
    record {
      value = ParamValue.Float (clamp_of lt d.low d.high (float_grid d s.value));
      is = from-internal (range_of lo hi u) (Distribution.Float d) lo hi e s.accepted ∙ (unfold decoded_of in ap (made (float_of d)) s.is);
      range = clamped d (float_grid d s.value) (unfold shape_of in t) (on-grid d s.value (unfold shape_of in t) s.size);
    }
decode-accepted (Distribution.Int d) f t lo hi e u b =
    let s = unscaled d.log_scale lo hi u (end-rules (Distribution.Int d) f t lo hi e) b in
    record {
      value = ParamValue.Int (clamp_of lt_z d.low d.high (int_grid d s.value));
      is = from-internal (range_of lo hi u) (Distribution.Int d) lo hi e s.accepted ∙ (unfold decoded_of in ap (made (int_of d)) s.is);
      range = clamped-whole d (int_grid d s.value) (unfold shape_of in t);
    }
decode-accepted (Distribution.Categorical d) f t lo hi e u b = absurd (has-ends (Distribution.Categorical d) t lo hi e)

-- ---- a random value

-- j steps of n from low, where they are at most high - low
steps-between : (low high : ℤ) (o : T (range_ok low high)) (n j : ℕ) → j * n ≤ (whole.difference low high o).size → whole.Between low high (low +ℤ pos j *ℤ pos n)
steps-between low high o n j h =
    subst (whole.Between low high) (whole.whole_is low high o (j * n) ∙ ap (λ (r : ℕ). low +ℤ pos r) (mod-eq_of_lt (let g : j * n < (whole.difference low high o).size + 1 = omega arith in g)))
    (whole.whole-between low high o (j * n))

-- r draws one word for a value of which P holds
pub record Drawn {A : Type 0} (w : ℕ) (P : A → Type 0) (r : Result (Draw A) Refusal) : Type 0 where
  pub value : A
  pub is : r ≡ Ok (record { value = value; drawn = 1; next = next_of w })
  pub holds : P value

module _ (w : ℕ) (h : Nonzero w) where
  abbrev u : Float
  u = unit_of (next_of w)

  unit : Between (of_bits binary64 0) one u
  unit = unit-between w h

  module _ {A : Type 0} (P : A → Type 0) where
    -- a value made of the unit float
    unit-drawn : (f : Float → Result A Refusal) (v : A) → f u ≡ Ok v → P v → Drawn w P (drawing f (unit_draw_of w))
    unfolding word_draw_of unit_draw_of
    unit-drawn f v e t = record { value = v; is = rw (nonzero-test w h, e); holds = t }

    -- a value that is read from a draw from a to b, and a number that is drawn there
    whole-drawn : (a b : ℤ) (f : ℤ → A) → T (range_ok a b) → ((k : ℤ) → whole.Between a b k → P (f k)) → Drawn w P (read_by f (whole_draw_of w a b))
    unfolding word_draw_of whole_draw_of
    whole-drawn a b f o g =
        let k = whole_of a b (next_of w) in
        record { value = f k; is = rw (is_true (range_ok a b) o, nonzero-test w h); holds = g k (whole.whole-between a b o (next_of w)) }

    -- what is read from a value drawn
    read-drawn : {B : Type 0} (Q : B → Type 0) (f : B → A) (r : Result (Draw B) Refusal) → Drawn w Q r → ((v : B) → Q v → P (f v)) → Drawn w P (read_by f r)
    read-drawn Q f r d g = record { value = f d.value; is = rw d.is; holds = g d.value d.holds }

  -- ---- floats
  module _ (d : FloatDistribution) (f : FloatFits d) (t : T (float_shape d)) where
    abbrev D : Distribution
    D = Distribution.Float d

    log-float : T d.log_scale → Drawn w real (log_float_random w d)
    unfolding log_float_random
    log-float l =
        let v = log-drawn D tt f (unfold shape_of in t) (is_true d.log_scale l) u unit in
        unit-drawn real (λ u. made (float_grid d) (log_range (bounds_of D) u)) (float_grid d v.value) (rw v.is) (on-grid d v.value t v.size)

    stepped-float : (step : Float) → d.step ≡ Some step → Drawn w real (stepped_float_random w d.low d.high step)
    unfolding stepped_float_random
    stepped-float step e =
        let n = float-steps d t step e in
        rw n.is
        (whole-drawn real (pos 0) (pos n.number) (λ k. add binary64 d.low (mul binary64 (of_int binary64 k) step)) (in-range (pos 0) (pos n.number) (omega arith) n.few (le→leb 0 n.number (omega arith)))
        (λ k b. let j = up_to n.number k b in rw j.is (n.sums j.number j.most)))

    linear-float : Drawn w real (linear_float_random w d.low d.high)
    unfolding linear_float_random word_draw_of unit_draw_of
    linear-float =
        let r = float-rules d t in
        let v = linear-range d.low d.high u (record { low = r.low; high = r.high; order = r.order; low_fits = f.low; high_fits = f.high }) unit in
        record { value = range_of d.low d.high u; is = rw (nonzero-test w h); holds = (order.le-real (range_of d.low d.high u) (power (pos 53)) (upper (power (pos 53)) (range_of d.low d.high u) v.1)).0 }

    unclamped : Drawn w real (unclamped_random w d)
    unfolding unclamped_random
    unclamped = by-test (Drawn w real) d.log_scale _ _ (λ e. log-float (holds e)) (λ e. by-step (Drawn w real) _ d.step _ stepped-float (λ _. linear-float))

    float-drawn : Drawn w (λ v. T (in_range D v)) (float_random w d)
    unfolding float_random
    float-drawn = read-drawn (λ v. T (in_range D v)) real _ _ unclamped (λ v r. clamped d v t r)

  -- ---- ints
  module _ (d : IntDistribution) (t : T (int_shape d)) where
    abbrev Z : Distribution
    Z = Distribution.Int d

    abbrev InRange : ParamValue → Type 0
    InRange v = T (in_range Z v)

    -- a number from low to high
    held : (z : ℤ) → whole.Between d.low d.high z → InRange (ParamValue.Int z)
    held z b = and_i (le_z d.low z) (le_z z d.high) b.0 b.1

    ok : T (range_ok d.low d.high)
    ok = let r = int-rules d t in in-range d.low d.high (let m = r.low.magnitude in omega arith) (let m = r.high.magnitude in omega arith) r.order

    log-int : T d.log_scale → Drawn w InRange (log_int_random w d)
    unfolding log_int_random
    log-int l =
        let v = log-drawn Z tt tt (unfold shape_of in t) (is_true d.log_scale l) u unit in
        unit-drawn InRange (λ u. made (int_of d) (log_range (bounds_of Z) u)) (int_of d v.value) (rw v.is) (clamped-whole d (int_grid d v.value) t)

    stepped-int : (step : ℤ) → d.step ≡ Some step → Drawn w InRange (stepped_int_random w d.low d.high step)
    unfolding stepped_int_random
    stepped-int step e = go step ((int-rules d t).steps step e).1
      where
        span : ℕ
        span = (whole.difference d.low d.high ok).size

        span_small : span ≤ 2 ^ 53
        span_small = let r = int-rules d t in let a = r.low.magnitude in let b = r.high.magnitude in omega (arith, (whole.difference d.low d.high ok).small)

        go : (z : ℤ) → T (le_z (pos 1) z) → Drawn w InRange (read_by (λ k. ParamValue.Int (d.low +ℤ k *ℤ z)) (whole_draw_of w (pos 0) (quot_z (d.high -ℤ d.low) z)))
        go (negsuc n) l = absurd l
        go (pos n) l =
            rw (whole.difference d.low d.high ok).is
            (whole-drawn InRange (pos 0) (pos (span / n)) (λ k. ParamValue.Int (d.low +ℤ k *ℤ pos n)) (in-range (pos 0) (pos (span / n)) (omega arith) (le_trans (div-le_self span n) span_small) (le→leb 0 (span / n) (omega arith)))
            (λ k b. let j = up_to (span / n) k b in rw j.is (held (d.low +ℤ pos j.number *ℤ pos n) (steps-between d.low d.high ok n j.number (le_trans (mul-le-mul_right n j.most) (div-mul-le_self span n))))))

    linear-int : Drawn w InRange (linear_int_random w d.low d.high)
    unfolding linear_int_random
    linear-int = whole-drawn InRange d.low d.high (λ k. ParamValue.Int k) ok held

    int-drawn : Drawn w InRange (int_random w d)
    unfolding int_random
    int-drawn = by-test (Drawn w InRange) d.log_scale _ _ (λ e. log-int (holds e)) (λ e. by-step (Drawn w InRange) _ d.step _ stepped-int (λ _. linear-int))

  -- ---- choices
  module _ (d : CategoricalDistribution) (t : T (shape_of (Distribution.Categorical d))) where
    choice-drawn : Drawn w (λ v. T (in_range (Distribution.Categorical d) v)) (categorical_random w d.n_choices)
    unfolding categorical_random
    choice-drawn =
        let n = d.n_choices in
        let r = categorical-rules d (unfold shape_of in t) in
        whole-drawn (λ v. T (in_range (Distribution.Categorical d) v)) (pos 0) (pos (n - 1)) (λ k. ParamValue.Categorical (nat_abs k)) (in-range (pos 0) (pos (n - 1)) (omega arith) (omega arith) (le→leb 0 (n - 1) (omega arith)))
        (λ k b. let j = up_to (n - 1) k b in let l : j.number < n = omega (arith, j.most) in rw j.is (lt→ltb j.number n l))

pub random-accepted : (w : ℕ) (d : Distribution) → Nonzero w → FloatsFit d → T (shape_of d) → Drawn w (λ v. T (in_range d v)) (sample_random_of w d)
unfolding sample_random_of
random-accepted w d h f t = by-test (Drawn w (λ v. T (in_range d v))) (shape_of d) _ _ (λ _. go d f t) (λ e. absurd (T_not (shape_of d) (untaken e) t))
  where
    go : (d : Distribution) → FloatsFit d → T (shape_of d) → Drawn w (λ v. T (in_range d v)) (random_of w d)
    go (Distribution.Float d) f t = unfold random_of in float-drawn w h d f (unfold shape_of in t)
    go (Distribution.Int d) f t = unfold random_of in int-drawn w h d (unfold shape_of in t)
    go (Distribution.Categorical d) f t = unfold random_of in choice-drawn w h d t

-- ---- a taken value, encoded

-- the binary64 format holds a float value
abbrev pub ValueFits : ParamValue → Type 0
ValueFits (ParamValue.Float v) = T (fits binary64 v)
ValueFits (ParamValue.Int z) = Unit
ValueFits (ParamValue.Categorical i) = Unit

-- the largest value in the model's space: 37 on log scale, else 2 ^ 53
abbrev pub encoded_limit : Bool → Float
encoded_limit log = cond log (of_int binary64 (pos 37)) (power (pos 53))

pub record Encoded (d : Distribution) (v : ParamValue) : Type 0 where
  pub value : Float
  pub is : to_internal_of v d ≡ Ok value
  pub size : Within (encoded_limit (on_log_scale d)) value
  pub fit : T (fits binary64 value)

encoded : (d : Distribution) (v : ParamValue) (x : Float) → to_internal_of v d ≡ scale_of (on_log_scale d) x → Scalable 52 (on_log_scale d) x → Encoded d v
encoded d v x e l = let s = scaled 52 (encoded_limit true) ln-taken (on_log_scale d) x l in record { value = s.value; is = e ∙ s.is; size = s.size; fit = s.fit }

pub encode-accepted : (d : Distribution) (v : ParamValue) → T (continuous_of d) → ValueFits v → T (shape_of d) → T (taken_of d v) → Encoded d v
encode-accepted (Distribution.Float d) (ParamValue.Float v) c f t k =
    let r = float-taken d v k in
    encoded (Distribution.Float d) (ParamValue.Float v) v (unfold to_internal_of in rw (is_true (shape_of (Distribution.Float d)) t, is_true (taken_of (Distribution.Float d) (ParamValue.Float v)) k))
    (record { fit = f; size = r.0; least = r.1 })
encode-accepted (Distribution.Int d) (ParamValue.Int z) c f t k =
    let r = int-taken d z k in
    encoded (Distribution.Int d) (ParamValue.Int z) (of_int binary64 z) (unfold to_internal_of in rw (is_true (shape_of (Distribution.Int d)) t, is_true (taken_of (Distribution.Int d) (ParamValue.Int z)) k))
    (looser (whole-scalable d.log_scale z r.0 r.1))
encode-accepted (Distribution.Categorical d) v c f t k = absurd c
encode-accepted (Distribution.Float d) (ParamValue.Int z) c f t k = absurd (unfold taken_of in k)
encode-accepted (Distribution.Float d) (ParamValue.Categorical i) c f t k = absurd (unfold taken_of in k)
encode-accepted (Distribution.Int d) (ParamValue.Float v) c f t k = absurd (unfold taken_of in k)
encode-accepted (Distribution.Int d) (ParamValue.Categorical i) c f t k = absurd (unfold taken_of in k)

-- ---- normalised, where the ends are 1e-15 or more apart

abbrev pub apart : Float
apart = of_bits binary64 0x3cd203af9ee75616

abbrev pub largest : Float
largest = of_bits binary64 0x4693b8b5b5056e17

quotient : (log : Bool) (x lo hi : Float) → Within (encoded_limit log) x → EndRules log lo hi → T (not (lt (abs (sub binary64 hi lo)) apart)) → Within largest (div binary64 (sub binary64 x lo) (sub binary64 hi lo))
quotient log x lo hi w r h =
    let y = sub binary64 hi lo in
    let v = sub_in binary64 (limit log) (limit log) (power (pos 54)) hi lo (ends log) r.high r.low in
    let l = order.le_of_not_lt (abs y) apart (order.le-real (abs y) (power (pos 54)) v).0 (unfold of_bits is_nan in tt) h in
    div-in binary64 (power (pos 54)) apart largest (sub binary64 x lo) y (unfold of_bits div le in tt)
    (and_i (finite y) (le apart (abs y)) (within-finite (power (pos 54)) y tt v) l) (sub_in binary64 (encoded_limit log) (limit log) (power (pos 54)) x lo (values log) w r.low)
  where
    ends : (log : Bool) → T (bound (limit log) && bound (limit log) && le (add binary64 (limit log) (limit log)) (power (pos 54)))
    ends true = unfold of_bits add le in tt
    ends false = unfold add le in tt

    values : (log : Bool) → T (bound (encoded_limit log) && bound (limit log) && le (add binary64 (encoded_limit log) (limit log)) (power (pos 54)))
    values true = unfold of_int of_bits add le in tt
    values false = unfold add le in tt

pub normalised : (d : Distribution) (v : ParamValue) → FloatsFit d → ValueFits v → T (shape_of d) → T (taken_of d v)
    → (x lo hi : Float) → to_internal_of v d ≡ Ok x → bounds_of d ≡ Ok (Some (lo, hi)) → T (not (lt (abs (sub binary64 hi lo)) apart)) → Within largest (div binary64 (sub binary64 x lo) (sub binary64 hi lo))
normalised d v f g t k x lo hi p q h =
    let r = encode-accepted d v (has-ends d t lo hi q) g t k in
    let e : r.value ≡ x = cc r.is in
    quotient (on_log_scale d) x lo hi (subst (Within (encoded_limit (on_log_scale d))) e r.size) (end-rules d f t lo hi q) h
