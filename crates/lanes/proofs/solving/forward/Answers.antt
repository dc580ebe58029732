-- `lanes::solving::forward` meets its contract: before each turn z holds the first i rows. Assumes nothing.
use mathlib.Core.Path.{refl, ◌∙◌}
use native.Mathlib.Numerals.{add-one}
use native.Mathlib.Omega.{arith}
use lib.Ieee.{of_bits}
use Rattle.arith.specs.Lists.{grown}
use Rattle.lanes.proofs.Rows.{row-set}
use Rattle.lanes.proofs.Forward.{forward-row}
use Rattle.lanes.proofs.solving.forward.Goals as goal

pub loop-i-init : goal.loop-i-init
unfolding grown of_bits
loop-i-init c = refl

pub loop-i-preserved : goal.loop-i-preserved
loop-i-preserved c =
    let g = c.args in
    let i = c.loop-i.i in
    rw (c.loop-i.invariant, add-one i) (row-set _ i c.next.result (omega arith) (c.next.ensures ∙ forward-row g.l.now g.b.now g.n i (omega arith) (omega arith) _ c.loop-i.invariant))
