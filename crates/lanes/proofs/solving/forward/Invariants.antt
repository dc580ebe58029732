use mathlib.Core.Path.{◌≡◌}
use Rattle.factor.specs.Solve.{forward_of}
use Rattle.lanes.specs.Rows.{lane_of, lanes_of, rows_of}
use Rattle.lanes.proofs.solving.forward.Given as goal

abbrev pub invariant-loop-i : goal.invariant-loop-i
invariant-loop-i l = (l.z ≡ rows_of (lanes_of (λ p. forward_of l.l (lane_of l.b 100 p) l.n) l.i))
