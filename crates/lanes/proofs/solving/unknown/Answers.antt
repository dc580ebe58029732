-- `lanes::solving::unknown` meets its contract: before each turn each lane has lost the k products passed. Assumes nothing.
use Prim.Native.Nat.{◌+◌}
use mathlib.Core.Path.{◌≡◌, refl}
use native.Mathlib.Numerals.{add-one}
use native.Mathlib.Omega.{arith}
use mathlib.Core.List.{[]}
use lib.ListN.{get_or}
use Rattle.factor.specs.Triangle.{entry, less_of}
use Rattle.lanes.specs.Rows.{cell}
use Rattle.lanes.proofs.Less.{lost-more, lost-over}
use Rattle.lanes.proofs.solving.unknown.Goals as goal

pub loop-k-init : goal.loop-k-init
unfolding less_of
loop-k-init c = λ p h. refl

pub loop-k-preserved : goal.loop-k-preserved
loop-k-preserved c =
    let g = c.args in
    let k = c.loop-k.k in
    rw (add-one k) (lost-more k (λ r. entry g.l.now (g.i + 1 + r) g.i) (λ r. cell g.x.now (g.i + 1 + r)) (cell g.z.now g.i) c.loop-k.s c.less-s.result _ (get_or g.x.now (g.i + 1 + k) []) refl (λ p h. refl) c.loop-k.invariant c.less-s.ensures)

pub returns : goal.returns
returns c =
    let g = c.args in
    let e : c.loop-k.k ≡ g.m = omega arith in
    lost-over g.m (λ r. entry g.l.now (g.i + 1 + r) g.i) (λ r. cell g.x.now (g.i + 1 + r)) (cell g.z.now g.i) c.loop-k.s c.over.result _ (rw e at c.loop-k.invariant) c.over.ensures
