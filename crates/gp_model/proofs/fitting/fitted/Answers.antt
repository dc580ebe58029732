-- `gp_model::fitting::fitted` meets its contract. Assumes nothing.
use Prim.Native.Nat.{ℕ}
use mathlib.Core.Path.{◌≡◌}
use mathlib.Core.List.{List}
use lib.Ieee.{Float}
use lib.ListN.{length}
use Rattle.std.specs.Prelude.{Result}
use Rattle.refusal.specs.declared.Refusal.{Refusal}
use Rattle.arith.specs.Outcome.{made}
use Rattle.std.proofs.lemmas.Result.{err_from_is_err_and}
use Rattle.arith.proofs.Lists.{grown-padded-take}
use Rattle.factor.specs.Cholesky.{cholesky_of}
use Rattle.gp_model.specs.Fit.{model_of, fitted_of}
use Rattle.gp_model.specs.Kernels.{kernel_matrix_of}
use Rattle.gp_model.specs.Statistics.{lengthscale_of, lengthscales_of}
use Rattle.gp_model.proofs.fitting.fitted.Goals as goal
use Rattle.gp_model.proofs.fitting.fitted.Goals.{After-factored}

-- the factor, by the lengthscales themselves
known : (c : After-factored) → let x = c.args.x.now in
    c.factored.result ≡ cholesky_of (kernel_matrix_of x.cells.now x.n x.d (lengthscales_of x.cells.now x.n x.d) c.args.noise_var) x.n
known c =
    let x = c.args.x.now in
    rw (c.factored.ensures, c.lengthscales-lengthscales.ensures, grown-padded-take 20 (λ xs j. lengthscale_of x.cells.now x.n x.d j) x.d)

-- what is answered of a factor
fitted-of : (x y : List Float) (d n : ℕ) (noise : Float) (f : Result (List Float) Refusal) → length y ≡ n → f ≡ cholesky_of (kernel_matrix_of x n d (lengthscales_of x n d) noise) n → fitted_of x y d noise ≡ made (model_of x y d) f
unfolding fitted_of
fitted-of x y d n noise f e h = rw (e, h)

pub returns : goal.returns
returns c =
    let x = c.args.x.now in
    rw (c.model.ensures, fitted-of x.cells.now c.args.y.now x.d x.n c.args.noise_var c.factored.result c.requires.1 (known (goal.at.returns c).After-factored), c.in_ok-cholesky.was)

pub returns-in_err-cholesky : goal.returns-in_err-cholesky
returns-in_err-cholesky c =
    let x = c.args.x.now in
    let p = err_from_is_err_and c.from_residual.result c.from_residual.ensures.1 in
    rw (p.1, p.2, fitted-of x.cells.now c.args.y.now x.d x.n c.args.noise_var c.factored.result c.requires.1 (known (goal.at.returns-in_err-cholesky c).After-factored), c.in_err-cholesky.was)
