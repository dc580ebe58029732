-- `history::building::y_train` meets its contract: before each turn the array holds the objectives passed. Assumes nothing.
use mathlib.Core.Path.{◌≡◌, refl}
use native.Mathlib.Numerals.{add-one}
use native.Mathlib.Omega.{arith}
use lib.ListN.{length}
use lib.Ieee.{of_bits}
use Rattle.arith.specs.Lists.{grown}
use Rattle.arith.proofs.Lists.{grown-set}
use Rattle.history.specs.Training.{y_of}
use Rattle.history.proofs.building.y_train.Goals as goal

pub loop-c-init : goal.loop-c-init
unfolding grown of_bits
loop-c-init c = refl

pub loop-c-preserved : goal.loop-c-preserved
loop-c-preserved c =
    rw (c.objective.ensures, c.row.ensures.1, c.loop-c.invariant, add-one c.loop-c.c) (grown-set 100 _ c.loop-c.c (omega arith))

pub returns : goal.returns
unfolding y_of
returns c = let e : c.loop-c.c ≡ length c.args.kept.now = omega arith in rw (c.loop-c.invariant, e)
