-- Each call before the rest has two words or more and put four.
use Rattle.std.proofs.Common.{◌+◌, ◌*◌, ◌≤◌, length}
use Rattle.leaf.proofs.runs.calls.Given as goal

abbrev pub invariant-loop-call : goal.invariant-loop-call
invariant-loop-call l = l.to + 2 * length l.rest ≤ 8182

abbrev pub decreases-loop-call : goal.decreases-loop-call
decreases-loop-call l = length l.rest
