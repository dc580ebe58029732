-- A value from low to high of a well-formed distribution obeys its Taken rule. Assumes nothing.
use Prim.Native.Nat.{◌^◌}
use lib.Dec.{T}
use lib.IntN.{ℤ, pos, negsuc, neg_ℤ}
use lib.Signed.{le_z}
use lib.Ieee.{Float, neg, le}
use lib.Ieee.Fits.{and_i}
use Rattle.arith.proofs.Order as order
use Rattle.arith.proofs.Within.{lower, upper}
use Rattle.distribution.specs.Numbers.{FloatDistribution, IntDistribution}
use Rattle.distribution.specs.declared.Distribution.{Distribution}
use Rattle.distribution.specs.declared.ParamValue.{ParamValue}
use Rattle.distribution.specs.Shape.{power, float_shape, int_shape, shape_of}
use Rattle.distribution.specs.Taken.{float_taken, int_taken, taken_of}
use Rattle.distribution.specs.Range.{InRangeTaken}
use Rattle.distribution.proofs.Facts.{parts, asking, float-rules, int-rules}
use Rattle.distribution.proofs.Whole.{le_z-trans}

float : (d : FloatDistribution) (v : Float) → T (float_shape d) → T (le d.low v) → T (le v d.high) → T (float_taken d.log_scale v)
unfolding float_taken
float d v t l h =
    let r = float-rules d t in
    let a = order.le_trans (neg (power (pos 53))) (neg (power (pos 52))) v (unfold neg le in tt) (order.le_trans (neg (power (pos 52))) d.low v (lower (power (pos 52)) d.low r.low) l) in
    let b = order.le_trans v (power (pos 52)) (power (pos 53)) (order.le_trans v d.high (power (pos 52)) h (upper (power (pos 52)) d.high r.high)) (unfold le in tt) in
    let c = asking d.log_scale (le (power (negsuc 52)) v) (λ g. order.le_trans (power (negsuc 52)) (power (negsuc 51)) v (unfold le in tt) (order.le_trans (power (negsuc 51)) d.low v (r.log g) l)) in
    search and_i

int : (d : IntDistribution) (z : ℤ) → T (int_shape d) → T (le_z d.low z) → T (le_z z d.high) → T (int_taken d.log_scale z)
unfolding int_taken
int d z t l h =
    let r = int-rules d t in
    let a = le_z-trans (neg_ℤ (pos (2 ^ 52))) d.low z r.low.least l in
    let b = le_z-trans z d.high (pos (2 ^ 52)) h r.high.most in
    let c = asking d.log_scale (le_z (pos 1) z) (λ g. le_z-trans (pos 1) d.low z (r.log g) l) in
    search and_i

pub in_range_taken : InRangeTaken
unfolding shape_of taken_of
in_range_taken (Distribution.Float d) (ParamValue.Float v) t r = float d v t (search parts) (search parts)
in_range_taken (Distribution.Float d) (ParamValue.Int z) t r = absurd r
in_range_taken (Distribution.Float d) (ParamValue.Categorical i) t r = absurd r
in_range_taken (Distribution.Int d) (ParamValue.Float v) t r = absurd r
in_range_taken (Distribution.Int d) (ParamValue.Int z) t r = int d z t (search parts) (search parts)
in_range_taken (Distribution.Int d) (ParamValue.Categorical i) t r = absurd r
in_range_taken (Distribution.Categorical d) (ParamValue.Float v) t r = absurd r
in_range_taken (Distribution.Categorical d) (ParamValue.Int z) t r = absurd r
in_range_taken (Distribution.Categorical d) (ParamValue.Categorical i) t r = r
