use Prim.Native.Nat.{◌-◌}
use mathlib.Core.Path.{◌≡◌}
use mathlib.Core.List.{◌++◌}
use lib.ListN.{take}
use Rattle.arith.specs.Lists.{padded}
use Rattle.factor.specs.Solve.{backward_of}
use Rattle.factor.proofs.backward.Given as goal

abbrev pub invariant-loop-i : goal.invariant-loop-i
invariant-loop-i l = l.x ≡ padded 100 (take l.i (take l.n l.initial.x) ++ backward_of l.l (take l.n l.initial.x) l.n (l.n - l.i))
