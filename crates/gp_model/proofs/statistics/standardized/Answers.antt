-- `gp_model::statistics::standardized` meets its contract: before each turn the array holds the values passed, standardised. Assumes nothing.
use mathlib.Core.Path.{refl}
use native.Mathlib.Numerals.{add-one}
use native.Mathlib.Omega.{arith}
use lib.Ieee.{of_bits}
use Rattle.arith.specs.Lists.{grown}
use Rattle.arith.proofs.Lists.{grown-set}
use Rattle.gp_model.specs.Statistics.{standard_of}
use Rattle.gp_model.proofs.statistics.standardized.Goals as goal

pub loop-i-init : goal.loop-i-init
unfolding grown of_bits
loop-i-init c = refl

pub loop-i-preserved : goal.loop-i-preserved
unfolding standard_of
loop-i-preserved c =
    let l = c.loop-i in
    rw (c.mean-y_mean.ensures, c.value_deviation-y_std.ensures, l.invariant, add-one) (grown-set 100 (λ xs i. standard_of c.args.y.now i) l.i (omega arith))
