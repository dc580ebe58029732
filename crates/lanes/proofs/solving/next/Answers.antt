-- `lanes::solving::next` meets its contract: before each turn each lane has lost the k products passed. Assumes nothing.
use mathlib.Core.Path.{◌≡◌, refl}
use native.Mathlib.Numerals.{add-one}
use native.Mathlib.Omega.{arith}
use mathlib.Core.List.{[]}
use lib.ListN.{get_or}
use Rattle.factor.specs.Triangle.{entry, less_of}
use Rattle.lanes.specs.Rows.{cell}
use Rattle.lanes.proofs.Less.{lost-more, lost-over}
use Rattle.lanes.proofs.solving.next.Goals as goal

pub loop-k-init : goal.loop-k-init
unfolding less_of
loop-k-init c = λ p h. refl

pub loop-k-preserved : goal.loop-k-preserved
loop-k-preserved c =
    let g = c.args in
    rw (add-one c.loop-k.k) (lost-more c.loop-k.k (entry g.l.now g.i) (cell g.z.now) (cell g.b.now g.i) c.loop-k.s c.less-s.result _ (get_or g.z.now c.loop-k.k []) refl (λ p h. refl) c.loop-k.invariant c.less-s.ensures)

pub returns : goal.returns
returns c =
    let g = c.args in
    let e : c.loop-k.k ≡ g.i = omega arith in
    lost-over g.i (entry g.l.now g.i) (cell g.z.now) (cell g.b.now g.i) c.loop-k.s c.over.result _ (rw e at c.loop-k.invariant) c.over.ensures
