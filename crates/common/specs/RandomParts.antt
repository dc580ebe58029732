-- What the draws of an int ask. Definitions only.
use Rattle.std.specs.Prelude.{◌≡◌, ℕ, ◌^◌, ◌≤◌, T, ℤ, pos, nat_abs, Float, Ok}
use Rattle.std.specs.Int.Signed.{le_z}
use Rattle.rng_util.specs.declared.Draw.{Draw}
use Rattle.rng_util.specs.Draws.{unit_draw_of}
use Rattle.distribution.specs.Numbers.{IntDistribution}
use Rattle.distribution.specs.declared.Distribution.{Distribution}
use Rattle.encoding.specs.Bounds.{bounds_of}
use Rattle.common.specs.GridParts.{OutcomeFits}
use Rattle.common.specs.Random.{log_range}

-- the steps to the value drawn on log scale do not saturate
abbrev pub LogFits : ℕ → IntDistribution → Type 0
LogFits w d =
    (r : Draw Float) → unit_draw_of w ≡ Ok r → OutcomeFits d (log_range (bounds_of (Distribution.Int d)) r.value)

-- ends in order and at most 2 ^ 52 in magnitude, and a step from 1 to 2 ^ 52
pub record Stepped (low high step : ℤ) : Type 0 where
  pub low_small : nat_abs low ≤ 2 ^ 52
  pub high_small : nat_abs high ≤ 2 ^ 52
  pub ordered : T (le_z low high)
  pub step_from : T (le_z (pos 1) step)
  pub step_small : nat_abs step ≤ 2 ^ 52
