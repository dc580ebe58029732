-- What is at least a limit, and the positive part: never a NaN. Assumes nothing.
use Rattle.std.proofs.Common.{◌≡◌, Bool, true, false, cond, T, refl}
use lib.Ieee.{Float, binary64, lt, le, is_nan, of_bits}
use Rattle.arith.specs.Bounds.{real, Sign}
use Rattle.arith.specs.Choice.{at_least, positive_part}
use Rattle.arith.proofs.Tests.{taken}
use Rattle.arith.proofs.Order.{le_of_lt, le-real, reflexive}

pub at-least : (limit v : Float) → real limit → T (le limit (at_least limit v))
at-least limit v r = go (lt limit v) refl
  where
    go : (b : Bool) → lt limit v ≡ b → T (le limit (cond b v limit))
    go true e = le_of_lt limit v (taken e)
    go false e = reflexive limit r

pub positive-part : (v : Float) → Sign false (positive_part v)
positive-part v = at-least (of_bits binary64 0) v (unfold is_nan of_bits in tt)

pub positive-part-real : (v : Float) → real (positive_part v)
positive-part-real v = (le-real (of_bits binary64 0) (positive_part v) (positive-part v)).1
