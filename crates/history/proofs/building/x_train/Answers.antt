-- `history::building::x_train` meets its contract: before each turn the array holds the first p values. Assumes nothing.
use Prim.Native.Nat.{◌*◌}
use mathlib.Core.Path.{◌≡◌, refl}
use native.Mathlib.Nat.{mul-le-mul}
use native.Mathlib.Numerals.{add-one}
use native.Mathlib.Omega.{arith}
use lib.ListN.{length}
use lib.Ieee.{of_bits}
use Rattle.arith.specs.Lists.{grown}
use Rattle.arith.proofs.Lists.{grown-set}
use Rattle.history.specs.Training.{x_of}
use Rattle.history.proofs.KeptRows.{cell-small, cell-found}
use Rattle.history.proofs.building.x_train.Goals as goal

pub loop-p-init : goal.loop-p-init
unfolding grown of_bits
loop-p-init c = refl

pub value-requires : goal.value-requires
value-requires c =
    (cell-small c.requires.1 c.loop-p-test.true, rw (c.row.ensures.0, c.row.ensures.1) (cell-found c.requires.1 c.loop-p-test.true))

pub loop-p-preserved : goal.loop-p-preserved
loop-p-preserved c =
    let room = mul-le-mul c.requires.0 c.args.columns.now.few in
    rw (c.value.ensures, c.row.ensures.0, c.row.ensures.1, c.loop-p.invariant, add-one c.loop-p.p) (grown-set 2000 _ c.loop-p.p (omega arith))

pub returns : goal.returns
unfolding x_of
returns c =
    let e : c.loop-p.p ≡ length c.args.kept.now * length c.args.columns.now.places.now = omega arith in
    rw (c.loop-p.invariant, e)
