use Rattle.std.proofs.Common.{◌≤◌}
use Rattle.pieces.proofs.input.Input.run.Given as goal

abbrev pub invariant-loop : goal.invariant-loop
invariant-loop g l = l.self.left ≤ l.fn.self.left
