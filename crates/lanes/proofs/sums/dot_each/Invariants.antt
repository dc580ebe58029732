use lib.ListN.{get_or}
use lib.Ieee.{nan, binary64, mul}
use Rattle.lanes.specs.Rows.{cell}
use Rattle.lanes.proofs.Summed.{Summed}
use Rattle.lanes.proofs.sums.dot_each.Given as goal

abbrev pub invariant-loop-i : goal.invariant-loop-i
invariant-loop-i l = Summed l.i (λ p k. mul binary64 (cell l.a k p) (get_or l.b k nan)) l.s
