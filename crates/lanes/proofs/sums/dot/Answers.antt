-- `lanes::sums::dot` meets its contract: before each turn each lane has the sum of the i products passed. Assumes nothing.
use mathlib.Core.Path.{◌≡◌, refl}
use native.Mathlib.Numerals.{add-one}
use native.Mathlib.Omega.{arith}
use lib.Ieee.{binary64, mul, of_bits}
use Rattle.lanes.specs.Rows.{cell}
use Rattle.lanes.proofs.Summed.{summed-none, summed-more}
use Rattle.lanes.proofs.sums.dot.Goals as goal

pub loop-i-init : goal.loop-i-init
unfolding of_bits
loop-i-init c = (summed-none _)

pub loop-i-preserved : goal.loop-i-preserved
loop-i-preserved c =
    let g = c.args in
    let i = c.loop-i.i in
    rw (add-one i) (summed-more i (λ p k. mul binary64 (cell g.a.now k p) (cell g.b.now k p)) _ c.loop-i.s c.more-s.result (λ p h. refl) c.loop-i.invariant c.more-s.ensures)

pub returns : goal.returns
returns c =
    let g = c.args in
    let e : c.loop-i.i ≡ g.n = omega arith in
    rw (c.loop-i.invariant, e)
