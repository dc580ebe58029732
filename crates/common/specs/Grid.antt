-- How a value is moved to the grid of a stepped distribution and held to its ends, as common.rs does it.
-- Definitions only.
use Rattle.std.specs.Option.{option_map_or}
use Rattle.std.specs.Prelude.{◌-◌, ◌^◌, Bool, cond, ℤ, pos, neg_ℤ, ◌+ℤ◌, ◌*ℤ◌, Float}
use Rattle.std.specs.Int.Signed.{lt_z}
use Rattle.std.specs.Float.{binary64}
use Rattle.std.specs.Float.Ieee.{add, sub, mul, div, of_int, to_signed}
use Rattle.arith.specs.Rounding.{round_of}
use Rattle.distribution.specs.Numbers.{FloatDistribution, IntDistribution}

-- Rust's clamp, by which number is less; also where high is below low
abbrev pub raised_to : {A : Type 0} → (A → A → Bool) → A → A → A
raised_to less low v = cond (less v low) low v

abbrev pub clamp_of : {A : Type 0} → (A → A → Bool) → A → A → A → A
clamp_of less low high v = let r = raised_to less low v in cond (less high r) high r

-- `let k = ((v - d.low) / step).round(); d.low + k * step`, where there is a step
unfoldable pub float_grid : FloatDistribution → Float → Float
float_grid d v =
    option_map_or (λ step. add binary64 d.low (mul binary64 (round_of (div binary64 (sub binary64 v d.low) step)) step))
    d.step v

-- Rust's saturating operations
abbrev pub saturated : ℤ → ℤ
saturated z = clamp_of lt_z (neg_ℤ (pos (2 ^ 63))) (pos (2 ^ 63 - 1)) z

-- Rust's `x.round() as i64`
abbrev pub round_z : Float → ℤ
round_z x = to_signed 63 (round_of x)

-- the number of steps from low to v
abbrev pub steps_to : ℤ → ℤ → Float → ℤ
steps_to low step v = round_z (div binary64 (sub binary64 v (of_int binary64 low)) (of_int binary64 step))

-- `d.low.saturating_add(k.saturating_mul(step))`, or the nearest whole number
unfoldable pub int_grid : IntDistribution → Float → ℤ
int_grid d v = option_map_or (λ step. saturated (d.low +ℤ saturated (steps_to d.low step v *ℤ step))) d.step (round_z v)
