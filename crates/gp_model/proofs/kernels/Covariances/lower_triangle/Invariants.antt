use mathlib.Core.Path.{◌≡◌}
use Rattle.arith.specs.Lists.{padded}
use Rattle.factor.specs.Triangle.{rows_of}
use Rattle.gp_model.specs.Kernels.{covariance_of}
use Rattle.gp_model.proofs.kernels.Covariances.lower_triangle.Given as goal

abbrev pub invariant-loop-i : goal.invariant-loop-i
invariant-loop-i l = l.out ≡ padded 5050 (rows_of (covariance_of l.self.x.cells.now l.self.x.d l.self.lengthscales.now l.self.noise_var) l.i)
