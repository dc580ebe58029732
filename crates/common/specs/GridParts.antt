-- What the grid of an int asks: nothing saturates. Definitions only.
use Rattle.refusal.specs.declared.Refusal.{Refusal}
use Rattle.std.specs.Prelude.{ℤ, ◌+ℤ◌, ◌*ℤ◌, Float, Result, Ok, Err, IfSome}
use Rattle.std.specs.Int.{w64}
use Rattle.std.specs.Int.RustNames.{FitsSigned}
use Rattle.distribution.specs.Numbers.{IntDistribution}
use Rattle.common.specs.Grid.{steps_to}

pub record StepFits (low step : ℤ) (v : Float) : Type 0 where
  pub product : FitsSigned w64 (steps_to low step v *ℤ step)
  pub sum : FitsSigned w64 (low +ℤ steps_to low step v *ℤ step)

abbrev pub GridFits : IntDistribution → Float → Type 0
GridFits d v = IfSome d.step (λ step. StepFits d.low step v)

-- the same of an answer
abbrev pub OutcomeFits : IntDistribution → Result Float Refusal → Type 0
OutcomeFits d (Ok v) = GridFits d v
OutcomeFits d (Err r) = Unit
