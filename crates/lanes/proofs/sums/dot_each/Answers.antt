-- `lanes::sums::dot_each` meets its contract: before each turn each lane has the sum of the i products passed. Assumes nothing.
use mathlib.Core.Path.{◌≡◌}
use native.Mathlib.Numerals.{add-one}
use native.Mathlib.Omega.{arith}
use lib.ListN.{get_or}
use lib.Ieee.{nan, binary64, mul, of_bits}
use Rattle.std.proofs.lemmas.List.{get_or-replicate}
use Rattle.lanes.specs.Rows.{cell}
use Rattle.lanes.proofs.Summed.{summed-none, summed-more}
use Rattle.lanes.proofs.sums.dot_each.Goals as goal

pub loop-i-init : goal.loop-i-init
unfolding of_bits
loop-i-init c = (summed-none _)

pub loop-i-preserved : goal.loop-i-preserved
loop-i-preserved c =
    let g = c.args in
    let i = c.loop-i.i in
    rw (add-one i) (summed-more i (λ p k. mul binary64 (cell g.a.now k p) (get_or g.b.now k nan)) _ c.loop-i.s c.more-s.result (λ p h. rw (get_or-replicate 8 p (get_or g.b.now i nan) nan h)) c.loop-i.invariant c.more-s.ensures)

pub returns : goal.returns
returns c =
    let g = c.args in
    let e : c.loop-i.i ≡ g.n = omega arith in
    rw (c.loop-i.invariant, e)
