use Rattle.std.proofs.Common.{arith}
use lib.Ieee.{of_bits, of_int}
use Rattle.arith.proofs.Eights.{eight_floats}
use Rattle.lanes.proofs.kernels.polynomials.Goals as goal

pub returns : goal.returns
unfolding of_bits of_int
returns c = grind (arith, eight_floats)
