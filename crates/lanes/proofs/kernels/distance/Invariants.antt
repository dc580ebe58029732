use lib.ListN.{length}
use Rattle.lanes.specs.Kernels.{distance_term}
use Rattle.lanes.proofs.Summed.{Summed}
use Rattle.lanes.proofs.kernels.distance.Given as goal

abbrev pub invariant-loop-j : goal.invariant-loop-j
invariant-loop-j l = Summed l.j (distance_term l.points l.x (length l.lengthscales) l.lengthscales l.i) l.s
