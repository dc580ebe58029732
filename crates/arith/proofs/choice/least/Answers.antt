-- `arith::choice::least` meets its contract: before each turn the best is the least of the values passed. Assumes nothing.
use Rattle.std.proofs.Common.{refl, add-one, arith, rules}
use lib.Ieee.{div, of_bits}
use Rattle.arith.specs.Choice.{least_of_first}
use Rattle.arith.proofs.choice.least.Goals as goal

pub loop-x-init : goal.loop-x-init
unfolding least_of_first div of_bits
loop-x-init c = (omega arith, refl)

pub loop-x-preserved : goal.loop-x-preserved
unfolding least_of_first
loop-x-preserved c = (search rules, rw (c.lesser-best.ensures, c.loop-x.invariant.1, add-one))
