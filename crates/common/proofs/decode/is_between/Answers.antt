-- `common::decode::is_between` meets its contract. Assumes nothing.
use lib.Ieee.{of_bits, of_int}
use Rattle.common.proofs.decode.is_between.Goals as goal

pub returns-then-ends-x : goal.returns-then-ends-x
unfolding of_bits of_int
returns-then-ends-x c = rw (c.in-Some.is, c.if-ends-x.true)

pub returns-else-ends-x : goal.returns-else-ends-x
unfolding of_bits of_int
returns-else-ends-x c = rw (c.in-Some.is, c.if-ends-x.false)
