-- `exponential::settled` meets its contract, by its tests. Assumes nothing.
use Rattle.std.proofs.Common.{◌∙◌}
use Rattle.exponential.proofs.FallingLaws.{falling-exp}
use Rattle.arith.proofs.Tests.{taken, untaken}
use Rattle.exponential.proofs.settled.Goals as goal

pub returns-then-x : goal.returns-then-x
returns-then-x c h = h ∙ falling-exp c.args.x (taken c.if-x.true, untaken c.if-x-2.false)
