-- `lanes::solving::backward` meets its contract: before each turn the last m rows are known. Assumes nothing.
use Prim.Native.Nat.{◌-◌}
use mathlib.Core.Path.{refl}
use native.Mathlib.Numerals.{add-one}
use native.Mathlib.Omega.{arith}
use lib.Ieee.{of_bits}
use Rattle.lanes.proofs.Backward.{known-none, known_more, known-all}
use Rattle.lanes.proofs.solving.backward.Goals as goal

pub loop-m-init : goal.loop-m-init
unfolding of_bits
loop-m-init c = (known-none c.args.l.now c.args.z.now c.args.n 0 refl _ refl)

pub loop-m-preserved : goal.loop-m-preserved
loop-m-preserved c =
    let g = c.args in
    let m = c.loop-m.m in
    rw (add-one m) (known_more g.l.now g.z.now g.n m (g.n - 1 - m) (omega arith) (omega arith) c.loop-m.x c.loop-m.invariant c.unknown.result c.unknown.ensures)

pub returns : goal.returns
returns c = known-all c.args.l.now c.args.z.now c.args.n c.loop-m.m (omega arith) (omega arith) _ c.loop-m.invariant
