-- `exponential::whole` meets its contract, by its tests. Assumes nothing.
use Rattle.std.proofs.Common.{sym, ◌∙◌}
use Rattle.exponential.specs.ExpParts.{Falling, size_of}
use Rattle.exponential.proofs.ExpRange.{asked-neg}
use Rattle.exponential.proofs.FallingLaws.{falling-within, size-falling}
use Rattle.arith.proofs.Tests.{taken, untaken}
use Rattle.exponential.proofs.whole.Goals as goal
use Rattle.exponential.proofs.whole.Goals.{Else-x-2}

-- what the tests say
falls : (c : Else-x-2) → Falling c.args.x
falls c = (taken c.if-x.true, untaken c.if-x-2.false)

pub returns-then-x-2 : goal.returns-then-x-2
unfolding size_of
returns-then-x-2 c = rw (c.if-x.true, c.if-x-2.true)

pub nearest-requires : goal.nearest-requires
nearest-requires c = asked-neg _ (falling-within _ (falls (goal.at.nearest-requires c).Else-x-2))

pub returns-then-x : goal.returns-then-x
returns-then-x c = c.nearest.ensures ∙ sym (size-falling _ (falls (goal.at.returns-then-x c).Else-x-2))

pub returns : goal.returns
unfolding size_of
returns c = rw c.if-x.false
