use Rattle.std.proofs.Common.{refl}
use lib.Ieee.{of_int, of_bits}
use Rattle.exponential.specs.Exp.{horner_of}
use Rattle.exponential.proofs.horner.Goals as goal

pub returns : goal.returns
unfolding horner_of of_int of_bits
returns c = refl
