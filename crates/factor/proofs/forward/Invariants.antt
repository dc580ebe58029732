use mathlib.Core.Path.{◌≡◌}
use Rattle.arith.specs.Lists.{padded}
use Rattle.factor.specs.Solve.{forward_of}
use Rattle.factor.proofs.forward.Given as goal

abbrev pub invariant-loop-i : goal.invariant-loop-i
invariant-loop-i l = l.z ≡ padded 100 (forward_of l.l l.b l.i)
