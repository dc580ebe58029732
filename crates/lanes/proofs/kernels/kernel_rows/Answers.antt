-- `lanes::kernels::kernel_rows` meets its contract: before each turn the array holds the rows passed. Assumes nothing.
use mathlib.Core.Path.{refl}
use native.Mathlib.Numerals.{add-one}
use native.Mathlib.Omega.{arith}
use lib.Ieee.{of_bits}
use Rattle.arith.proofs.Lists.{row-end}
use Rattle.arith.specs.Lists.{grown}
use Rattle.lanes.proofs.Rows.{row-set}
use Rattle.lanes.proofs.KernelRow.{kernel-row}
use lib.ListN.{length}
use Rattle.lanes.proofs.kernels.kernel_rows.Goals as goal

pub loop-i-init : goal.loop-i-init
unfolding grown of_bits
loop-i-init c = refl

pub distance-r_sq-requires : goal.distance-r_sq-requires
distance-r_sq-requires c = (c.requires.1, let k = row-end c.loop-i.i c.args.n (length c.args.lengthscales.now) c.loop-i-test.true in omega arith)

pub loop-i-preserved : goal.loop-i-preserved
loop-i-preserved c =
    let g = c.args in
    let i = c.loop-i.i in
    let d = length g.lengthscales.now in
    let k = row-end i g.n d (omega arith) in
    rw (c.loop-i.invariant, add-one i) (row-set _ i c.decays.result (omega arith) (kernel-row g.points.now g.x.now d g.lengthscales.now i (omega arith) refl _ c.decays.result c.distance-r_sq.ensures c.decays.ensures))
