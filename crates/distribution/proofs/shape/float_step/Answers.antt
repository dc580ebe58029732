-- `distribution::shape::float_step` meets its contract, by its tests in order, the literals computed.
use lib.Ieee.{of_bits, div}
use Rattle.distribution.specs.Shape.{float_step}
use Rattle.distribution.proofs.shape.float_step.Goals as goal

pub returns-then-step-2 : goal.returns-then-step-2
unfolding float_step of_bits div
returns-then-step-2 c = rw (c.if-step.true, c.if-step-2.true, c.floor.ensures)

pub returns-else-step-2 : goal.returns-else-step-2
unfolding float_step of_bits div
returns-else-step-2 c = rw (c.if-step.true, c.if-step-2.false)

pub returns-else-step : goal.returns-else-step
unfolding float_step of_bits
returns-else-step c = rw c.if-step.false
