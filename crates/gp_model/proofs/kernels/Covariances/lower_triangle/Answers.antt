-- `gp_model::kernels::Covariances::lower_triangle` meets its contract: before each turn the array holds the rows passed. Assumes nothing.
use mathlib.Core.Path.{refl}
use lib.Ieee.{of_bits}
use Rattle.factor.specs.Triangle.{rows_of}
use Rattle.gp_model.proofs.kernels.Covariances.lower_triangle.Goals as goal

pub loop-i-init : goal.loop-i-init
unfolding rows_of of_bits
loop-i-init c = refl
