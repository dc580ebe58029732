use Rattle.factor.specs.Triangle.{entry}
use Rattle.lanes.specs.Rows.{cell}
use Rattle.lanes.proofs.Less.{Lost}
use Rattle.lanes.proofs.solving.next.Given as goal

abbrev pub invariant-loop-k : goal.invariant-loop-k
invariant-loop-k l = Lost l.k (entry l.l l.i) (cell l.z) (cell l.b l.i) l.s
