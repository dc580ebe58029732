use Prim.Native.Nat.{◌+◌}
use Rattle.factor.specs.Triangle.{entry}
use Rattle.lanes.specs.Rows.{cell}
use Rattle.lanes.proofs.Less.{Lost}
use Rattle.lanes.proofs.solving.unknown.Given as goal

abbrev pub invariant-loop-k : goal.invariant-loop-k
invariant-loop-k l = Lost l.k (λ r. entry l.l (l.i + 1 + r) l.i) (λ r. cell l.x (l.i + 1 + r)) (cell l.z l.i) l.s
