-- What fits i64 does not saturate. Assumes nothing.
use mathlib.Core.Path.{◌≡◌}
use Prim.Native.Nat.{◌-◌, ◌^◌}
use native.Mathlib.Omega.{arith}
use borrow.Author.Tests.{le-ltb}
use lib.IntN.{ℤ, pos, negsuc, ◌+ℤ◌, ◌*ℤ◌}
use lib.Ieee.{Float}
use mir.Syntax.{w64}
use mir.Val.{SFits}
use Rattle.common.specs.Grid.{saturated, steps_to}
use Rattle.common.specs.GridParts.{StepFits}

pub saturated-fits : (z : ℤ) → SFits w64 z → saturated z ≡ z
saturated-fits (pos n) f = rw (le-ltb (2 ^ 63 - 1) n (let h = f.sfits in omega arith))
saturated-fits (negsuc n) f = rw (le-ltb 9223372036854775807 n (let h = f.sfits in omega arith))

-- so a grid number is exact
pub exact : (low step : ℤ) (v : Float) → StepFits low step v → saturated (low +ℤ saturated (steps_to low step v *ℤ step)) ≡ low +ℤ steps_to low step v *ℤ step
exact low step v f = rw (saturated-fits (steps_to low step v *ℤ step) f.product, saturated-fits (low +ℤ steps_to low step v *ℤ step) f.sum)
