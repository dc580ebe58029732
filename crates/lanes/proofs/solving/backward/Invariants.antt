use Rattle.lanes.proofs.Backward.{Known}
use Rattle.lanes.proofs.solving.backward.Given as goal

abbrev pub invariant-loop-m : goal.invariant-loop-m
invariant-loop-m l = Known l.l l.z l.n l.m l.x
