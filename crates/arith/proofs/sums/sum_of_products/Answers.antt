-- `arith::sums::sum_of_products` meets its contract: before each turn the total is the sum of the products passed. Assumes nothing.
use Rattle.std.proofs.Common.{refl, add-one, arith, rules}
use Rattle.arith.specs.Sums.{sum_over}
use Rattle.arith.proofs.sums.sum_of_products.Goals as goal

pub loop-i-init : goal.loop-i-init
unfolding sum_over
loop-i-init c = (omega arith, refl)

pub loop-i-preserved : goal.loop-i-preserved
unfolding sum_over
loop-i-preserved c = (search rules, rw (c.loop-i.invariant.1, add-one))
