-- `sample_random` of common.rs: a random value for any distribution, one word each. "Every random float is now clamped
-- to low..high." Definitions only.
use Rattle.refusal.specs.declared.Refusal.TheVariants.{OutOfDomain}
use Rattle.refusal.specs.declared.Refusal.{Refusal}
use Rattle.std.specs.Prelude.{ℕ, ◌-◌, cond, ℤ, pos, ◌+ℤ◌, ◌-ℤ◌, ◌*ℤ◌, nat_abs, Float, Result, Ok, Err, Some, None}
use Rattle.std.specs.Option.{option_map_or}
use Rattle.std.specs.Int.Signed.{quot_z}
use Rattle.std.specs.Float.{binary64}
use Rattle.std.specs.Float.Ieee.{add, sub, mul, div, lt, of_int, to_signed}
use Rattle.exponential.specs.Exp.{exp_of}
use Rattle.arith.specs.Rounding.{floor_of}
use Rattle.arith.specs.Outcome.{made, and_then}
use Rattle.rng_util.specs.declared.Draw.{Draw}
use Rattle.rng_util.specs.Draws.{read_by, unit_draw_of, whole_draw_of}
use Rattle.distribution.specs.Numbers.{FloatDistribution, IntDistribution}
use Rattle.distribution.specs.declared.Distribution.{Distribution}
use Rattle.distribution.specs.declared.ParamValue.{ParamValue}
use Rattle.distribution.specs.Shape.{shape_of}
use Rattle.encoding.specs.Bounds.{InternalBounds, bounds_of}
use Rattle.common.specs.Decode.{int_of}
use Rattle.common.specs.Grid.{clamp_of, float_grid}

-- what f answers of the value drawn; a refusal draws nothing
abbrev pub drawing : {A B : Type 0} → (A → Result B Refusal) → Result (Draw A) Refusal → Result (Draw B) Refusal
drawing f r = and_then r (λ d. made (λ v. record { value = v; drawn = d.drawn; next = d.next }) (f d.value))

-- `low + rng.f64() * (high - low)`
abbrev pub range_of : Float → Float → Float → Float
range_of low high u = add binary64 low (mul binary64 u (sub binary64 high low))

-- on log scale: the exponential of a float between the internal bounds, the logarithms of the ends
abbrev pub log_range : InternalBounds → Float → Result Float Refusal
log_range (Ok (Some (lo, hi))) u = exp_of (range_of lo hi u)
log_range (Ok None) u = Err OutOfDomain
log_range (Err r) u = Err r

unfoldable pub log_float_random : ℕ → FloatDistribution → Result (Draw Float) Refusal
log_float_random w d =
    drawing (λ u. made (float_grid d) (log_range (bounds_of (Distribution.Float d)) u)) (unit_draw_of w)

-- `let n_steps = ((d.high - d.low) / step).floor() as i64; let k = rng.i64(0..=n_steps); d.low + (k as f64) * step`
unfoldable pub stepped_float_random : ℕ → Float → Float → Float → Result (Draw Float) Refusal
stepped_float_random w low high step =
    read_by (λ k. add binary64 low (mul binary64 (of_int binary64 k) step))
    (whole_draw_of w (pos 0) (to_signed 63 (floor_of (div binary64 (sub binary64 high low) step))))

unfoldable pub linear_float_random : ℕ → Float → Float → Result (Draw Float) Refusal
linear_float_random w low high = read_by (range_of low high) (unit_draw_of w)

-- a float before the clamp
unfoldable pub unclamped_random : ℕ → FloatDistribution → Result (Draw Float) Refusal
unfolding log_float_random stepped_float_random linear_float_random
unclamped_random w d =
    cond d.log_scale (log_float_random w d)
    (option_map_or (stepped_float_random w d.low d.high) d.step (linear_float_random w d.low d.high))

-- clamped as a decoding is; a zero equal to an end keeps its sign
unfoldable pub float_random : ℕ → FloatDistribution → Result (Draw ParamValue) Refusal
unfolding unclamped_random
float_random w d = read_by (λ v. ParamValue.Float (clamp_of lt d.low d.high v)) (unclamped_random w d)

unfoldable pub log_int_random : ℕ → IntDistribution → Result (Draw ParamValue) Refusal
log_int_random w d = drawing (λ u. made (int_of d) (log_range (bounds_of (Distribution.Int d)) u)) (unit_draw_of w)

-- `let n_steps = (d.high - d.low) / step; let k = rng.i64(0..=n_steps); d.low + k * step`
unfoldable pub stepped_int_random : ℕ → ℤ → ℤ → ℤ → Result (Draw ParamValue) Refusal
stepped_int_random w low high step =
    read_by (λ k. ParamValue.Int (low +ℤ k *ℤ step)) (whole_draw_of w (pos 0) (quot_z (high -ℤ low) step))

unfoldable pub linear_int_random : ℕ → ℤ → ℤ → Result (Draw ParamValue) Refusal
linear_int_random w low high = read_by (λ k. ParamValue.Int k) (whole_draw_of w low high)

unfoldable pub int_random : ℕ → IntDistribution → Result (Draw ParamValue) Refusal
unfolding log_int_random stepped_int_random linear_int_random
int_random w d =
    cond d.log_scale (log_int_random w d)
    (option_map_or (stepped_int_random w d.low d.high) d.step (linear_int_random w d.low d.high))

-- a choice below the count
unfoldable pub categorical_random : ℕ → ℕ → Result (Draw ParamValue) Refusal
categorical_random w n = read_by (λ k. ParamValue.Categorical (nat_abs k)) (whole_draw_of w (pos 0) (pos (n - 1)))

unfoldable pub random_of : ℕ → Distribution → Result (Draw ParamValue) Refusal
unfolding float_random int_random categorical_random
random_of w (Distribution.Float d) = float_random w d
random_of w (Distribution.Int d) = int_random w d
random_of w (Distribution.Categorical d) = categorical_random w d.n_choices

unfoldable pub sample_random_of : ℕ → Distribution → Result (Draw ParamValue) Refusal
unfolding random_of
sample_random_of w d = cond (shape_of d) (random_of w d) (Err OutOfDomain)
