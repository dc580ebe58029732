use Rattle.std.proofs.Common.{◌≡◌, ◌≤◌, length}
use Rattle.arith.specs.Choice.{least_of_first}
use Rattle.arith.proofs.choice.least.Given as goal

abbrev pub invariant-loop-x : goal.invariant-loop-x
invariant-loop-x l = (l.x-index ≤ length l.xs) × (l.best ≡ least_of_first l.xs l.x-index)
