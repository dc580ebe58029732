-- What a well-formed distribution and a taken value keep: the parts of the tests that they pass, as facts. Assumes nothing.
use Rattle.std.specs.Prelude.{Option, Some, None, IfSome}
use Rattle.std.specs.Option.{option_map_or}
use mathlib.Core.Path.{◌≡◌, refl, subst}
use Prim.Native.Nat.{ℕ, ◌^◌, ◌≤◌, ◌<◌}
use mathlib.Core.Bool.{Bool, true, false, not, ◌||◌}
use lib.Dec.{T, leb→le, ltb→lt}
use lib.IntN.{ℤ, pos, negsuc, neg_ℤ, nat_abs}
use lib.Signed.{le_z}
use lib.Ieee.{Float, nan, inf, fin, binary64, neg, sub, div, le, lt, eq}
use lib.Ieee.Fits.{and_i, and_l, and_r}
use lib.Ieee.Scale.{finite}
use Rattle.arith.specs.Bounds.{Within}
use Rattle.arith.specs.Rounding.{floor_of}
use Rattle.arith.proofs.Within as sizes
use Rattle.distribution.specs.declared.CategoricalDistribution.{CategoricalDistribution}
use Rattle.distribution.specs.declared.Distribution.{Distribution}
use Rattle.distribution.specs.declared.ParamValue.{ParamValue}
use Rattle.distribution.specs.Numbers.{FloatDistribution, IntDistribution}
use Rattle.distribution.specs.Shape.{power, within, within_z, float_step, float_shape, int_step, int_shape, categorical_shape}
use Rattle.distribution.specs.Taken.{taken_of}
use Rattle.distribution.proofs.Whole as whole

-- the parts of a conjunction
pub ruleset parts = (and_l, and_r)

-- a test that is made only where it is asked for, and back
pub asked : (a b : Bool) → T (not a || b) → T a → T b
asked true b t h = t
asked false b t h = absurd h

pub asking : (a b : Bool) → (T a → T b) → T (not a || b)
asking true b h = h tt
asking false b h = tt

-- what is made of a step where there is one, by the two cases
pub by-step : {A B : Type 0} (P : B → Type 0) (f : A → B) (o : Option A) (none : B) → ((step : A) → o ≡ Some step → P (f step)) → (o ≡ None → P none) → P (option_map_or f o none)
by-step P f None none h k = k refl
by-step P f (Some step) none h k = h step refl

-- what holds of each step holds where there is one
pub if-some : {A : Type 0} (o : Option A) (P : A → Type 0) → ((step : A) → o ≡ Some step → P step) → IfSome o P
if-some None P h = tt
if-some (Some step) P h = h step refl

-- the test of a step, where there is one
tested : {A : Type 0} (test : A → Bool) (o : Option A) → T (option_map_or test o true) → (step : A) → o ≡ Some step → T (test step)
tested test o t step e = subst (λ x. T (option_map_or test x true)) e t

-- ---- floats

size : (b x : Float) → T (within b x) → Within b x
size b x t = sizes.within b x (and_r (le (neg b) x) (le x b) t) (and_l (le (neg b) x) (le x b) t)

-- at least a power of 2 and below infinity
between : (k : ℤ) (x : Float) → T (le (power k) x) → T (lt x (inf false)) → T (finite x)
unfolding le lt eq
between k nan p q = absurd p
between k (inf true) p q = absurd p
between k (inf false) p q = absurd q
between k (fin s m e) p q = tt

-- "Step is finite, at least 2^-52, with floor((high − low)/step) ≤ 2^52."
pub record FloatStepRules (low high step : Float) : Type 0 where
  pub least : T (le (power (negsuc 51)) step)
  pub finite : T (finite step)
  pub count : T (le (floor_of (div binary64 (sub binary64 high low) step)) (power (pos 52)))

pub record FloatRules (d : FloatDistribution) : Type 0 where
  pub low : Within (power (pos 52)) d.low
  pub high : Within (power (pos 52)) d.high
  pub order : T (le d.low d.high)
  pub log : T d.log_scale → T (le (power (negsuc 51)) d.low)
  pub steps : (step : Float) → d.step ≡ Some step → FloatStepRules d.low d.high step

step-rules : (low high step : Float) → T (float_step low high step) → FloatStepRules low high step
unfolding float_step
step-rules low high step t = record { least = search parts; finite = between (negsuc 51) step (search parts) (search parts); count = search parts }

pub float-rules : (d : FloatDistribution) → T (float_shape d) → FloatRules d
unfolding float_shape
float-rules d t =
    record {
      low = size (power (pos 52)) d.low (search parts);
      high = size (power (pos 52)) d.high (search parts);
      order = search parts;
      log = asked d.log_scale (le (power (negsuc 51)) d.low) (search parts);
      steps = λ step e. step-rules d.low d.high step (tested (float_step d.low d.high) d.step (search parts) step e);
    }

-- and back: the rules are all that the test asks
below : (x : Float) → T (finite x) → T (lt x (inf false))
unfolding lt
below nan h = h
below (inf s) h = absurd h
below (fin s m e) h = tt

rules-step : (low high step : Float) → FloatStepRules low high step → T (float_step low high step)
unfolding float_step
rules-step low high step r =
    let a = r.least in
    let b = below step r.finite in
    let c = r.count in
    search and_i

pub rules-float : (d : FloatDistribution) → FloatRules d → T (float_shape d)
unfolding float_shape
rules-float d r =
    let a = sizes.lower (power (pos 52)) d.low r.low in
    let b = sizes.upper (power (pos 52)) d.low r.low in
    let c = sizes.lower (power (pos 52)) d.high r.high in
    let e = sizes.upper (power (pos 52)) d.high r.high in
    let o = r.order in
    let l = asking d.log_scale (le (power (negsuc 51)) d.low) r.log in
    let s = by-step T (float_step d.low d.high) d.step true (λ step e. rules-step d.low d.high step (r.steps step e)) (λ _. tt) in
    search and_i

-- ---- whole numbers

-- from -n to n
pub record Bounded (n : ℕ) (z : ℤ) : Type 0 where
  pub least : T (le_z (neg_ℤ (pos n)) z)
  pub most : T (le_z z (pos n))
  pub magnitude : nat_abs z ≤ n

bounded : (n : ℕ) (z : ℤ) → T (within_z (pos n) z) → Bounded n z
bounded n z t =
    let p = and_l (le_z (neg_ℤ (pos n)) z) (le_z z (pos n)) t in
    let q = and_r (le_z (neg_ℤ (pos n)) z) (le_z z (pos n)) t in
    record { least = p; most = q; magnitude = whole.magnitude n z p q }

pub record IntRules (d : IntDistribution) : Type 0 where
  pub low : Bounded (2 ^ 52) d.low
  pub high : Bounded (2 ^ 52) d.high
  pub order : T (le_z d.low d.high)
  pub log : T d.log_scale → T (le_z (pos 1) d.low)
  pub steps : (step : ℤ) → d.step ≡ Some step → Bounded (2 ^ 52) step × T (le_z (pos 1) step)

int-step : (z : ℤ) → T (int_step z) → Bounded (2 ^ 52) z × T (le_z (pos 1) z)
unfolding int_step
int-step (pos n) t = (bounded (2 ^ 52) (pos n) (search parts), search parts)
int-step (negsuc n) t = absurd t

pub int-rules : (d : IntDistribution) → T (int_shape d) → IntRules d
unfolding int_shape
int-rules d t =
    record {
      low = bounded (2 ^ 52) d.low (search parts);
      high = bounded (2 ^ 52) d.high (search parts);
      order = search parts;
      log = asked d.log_scale (le_z (pos 1) d.low) (search parts);
      steps = λ step e. int-step step (tested int_step d.step (search parts) step e);
    }

pub categorical-rules : (d : CategoricalDistribution) → T (categorical_shape d) → (1 ≤ d.n_choices) × (d.n_choices ≤ 2 ^ 32)
unfolding categorical_shape
categorical-rules d t = (leb→le 1 d.n_choices (search parts), leb→le d.n_choices (2 ^ 32) (search parts))

-- ---- taken values

pub float-taken : (d : FloatDistribution) (v : Float) → T (taken_of (Distribution.Float d) (ParamValue.Float v))
    → Within (power (pos 53)) v × (T d.log_scale → T (le (power (negsuc 52)) v))
unfolding taken_of
float-taken d v t = (size (power (pos 53)) v (search parts), asked d.log_scale (le (power (negsuc 52)) v) (search parts))

pub int-taken : (d : IntDistribution) (v : ℤ) → T (taken_of (Distribution.Int d) (ParamValue.Int v)) → Bounded (2 ^ 52) v × (T d.log_scale → T (le_z (pos 1) v))
unfolding taken_of
int-taken d v t = (bounded (2 ^ 52) v (search parts), asked d.log_scale (le_z (pos 1) v) (search parts))

pub categorical-taken : (d : CategoricalDistribution) (v : ℕ) → T (taken_of (Distribution.Categorical d) (ParamValue.Categorical v)) → v < d.n_choices
unfolding taken_of
categorical-taken d v t = ltb→lt v d.n_choices t
