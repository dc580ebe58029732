-- `acquisition::polynomial` meets its contract. Assumes nothing.
use mathlib.Core.Path.{refl}
use lib.Ieee.{of_bits}
use Rattle.acquisition.specs.Normal.{polynomial_of}
use Rattle.acquisition.proofs.polynomial.Goals as goal

pub returns : goal.returns
unfolding polynomial_of of_bits
returns c = refl
