use Rattle.std.proofs.Common.{◌≤◌}
use Rattle.propose_io.proofs.run.Run.to_end.Given as goal

abbrev pub invariant-loop : goal.invariant-loop
invariant-loop g l = l.self.left ≤ l.fn.self.left
