-- `search::eights::scores` meets its contract, lane by lane: a model whose counts fit is refused nothing. Assumes nothing.
use Rattle.std.specs.Prelude.{Ok}
use mathlib.Core.Path.{◌≡◌, ◌∙◌}
use lib.ListN.{take}
use Rattle.lanes.specs.declared.PosteriorSums.{PosteriorSums}
use Rattle.lanes.specs.Kernels.{kernel_rows_of}
use Rattle.lanes.specs.Posteriors.{sums_of}
use Rattle.lanes.specs.Rows.{rows_of}
use Rattle.search.proofs.LaneScores.{sums-known, score-lanes}
use Rattle.search.proofs.eights.scores.Goals as goal
use Rattle.search.proofs.eights.scores.Goals.{After-posterior_sums}

abbrev sums : After-posterior_sums → PosteriorSums
sums c = let m = c.args.m in sums_of (rows_of (kernel_rows_of c.args.points.now m.x_train.now m.n m.d (take m.d m.lengthscales.now))) m.cholesky.now m.alpha.now m.n

known : (c : After-posterior_sums) → c.posterior_sums.result ≡ Ok (sums c)
known c =
    let m = c.args.m in
    c.posterior_sums.ensures ∙ sums-known m.x_train.now m.lengthscales.now m.cholesky.now m.alpha.now m.f_best m.n m.d c.args.points.now m.fits.0 m.fits.1 m.fits.2 m.fits.3 m.fits.4

pub unwrap-sums-requires : goal.unwrap-sums-requires
unwrap-sums-requires c = rw (known (goal.at.unwrap-sums-requires c).After-posterior_sums)

pub returns : goal.returns
returns c =
    let m = c.args.m in
    let k = known (goal.at.returns c).After-posterior_sums in
    let e : c.unwrap-sums.result ≡ sums (goal.at.returns c).After-posterior_sums = cc in
    rw (c.improvements.ensures, e)
    (score-lanes m.x_train.now m.lengthscales.now m.cholesky.now m.alpha.now m.f_best m.n m.d c.args.points.now m.fits.0 m.fits.1 m.fits.2 m.fits.3 m.fits.4)
