-- `gp_model::statistics::lengthscales` meets its contract: before each turn the array holds the lengthscales of the columns passed. Assumes nothing.
use mathlib.Core.Path.{◌≡◌, refl}
use native.Mathlib.Numerals.{add-one}
use native.Mathlib.Omega.{arith}
use lib.Ieee.{of_bits}
use Rattle.arith.specs.Lists.{grown}
use Rattle.arith.proofs.Lists.{grown-set}
use Rattle.gp_model.specs.Statistics.{lengthscale_of}
use Rattle.gp_model.proofs.statistics.lengthscales.Goals as goal

pub loop-j-init : goal.loop-j-init
unfolding grown of_bits
loop-j-init c = refl

pub loop-j-preserved : goal.loop-j-preserved
unfolding lengthscale_of of_bits
loop-j-preserved c =
    let l = c.loop-j in
    let a = c.args.x.now in
    let e : c.at_least.result ≡ lengthscale_of a.cells.now a.n a.d l.j = rw (c.at_least.ensures, c.sqrt.ensures, c.variance.ensures) in
    rw (e, l.invariant, add-one) (grown-set 20 (λ xs j. lengthscale_of a.cells.now a.n a.d j) l.j (omega arith))
