-- `gp_model::statistics::value_deviation` meets its contract. Assumes nothing.
use lib.Ieee.{of_bits, of_int}
use borrow.Author.Tests.{lt-ltb, le-ltb}
use Rattle.gp_model.specs.Statistics.{value_deviation_of}
use Rattle.gp_model.proofs.statistics.value_deviation.Goals as goal

pub returns-then-n-gt1 : goal.returns-then-n-gt1
unfolding value_deviation_of of_bits
returns-then-n-gt1 c =
    rw (c.at_least.ensures, c.sqrt.ensures, c.variance.ensures, lt-ltb _ _ c.if-n-gt1.true)

pub returns : goal.returns
unfolding value_deviation_of of_bits of_int
returns c = rw (c.at_least-2.ensures, c.sqrt-2.ensures, le-ltb _ _ c.if-n-gt1.false)
