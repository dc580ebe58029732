use lib.Ieee.{binary64, mul}
use Rattle.lanes.specs.Rows.{cell}
use Rattle.lanes.proofs.Summed.{Summed}
use Rattle.lanes.proofs.sums.dot.Given as goal

abbrev pub invariant-loop-i : goal.invariant-loop-i
invariant-loop-i l = Summed l.i (λ p k. mul binary64 (cell l.a k p) (cell l.b k p)) l.s
