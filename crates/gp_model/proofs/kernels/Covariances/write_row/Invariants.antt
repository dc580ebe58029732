use mathlib.Core.Path.{◌≡◌}
use Rattle.arith.specs.Lists.{padded}
use Rattle.factor.proofs.Triangle.{filled}
use Rattle.gp_model.specs.Kernels.{covariance_of}
use Rattle.gp_model.proofs.kernels.Covariances.write_row.Given as goal

abbrev pub invariant-loop-j : goal.invariant-loop-j
invariant-loop-j l =
    l.out ≡ padded 5050 (filled (covariance_of l.self.x.cells.now l.self.x.d l.self.lengthscales.now l.self.noise_var) l.i l.j)
