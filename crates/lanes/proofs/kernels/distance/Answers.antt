-- `lanes::kernels::distance` meets its contract: before each turn each lane has the sum of the j columns passed. Assumes nothing.
use mathlib.Core.Path.{refl}
use native.Mathlib.Numerals.{add-one}
use lib.ListN.{length}
use lib.Ieee.{of_bits}
use Rattle.lanes.specs.Kernels.{distance_term}
use Rattle.lanes.proofs.Summed.{summed-none, summed-more}
use Rattle.lanes.proofs.kernels.distance.Goals as goal

pub loop-j-init : goal.loop-j-init
unfolding of_bits
loop-j-init c = summed-none _

pub loop-j-preserved : goal.loop-j-preserved
loop-j-preserved c =
    let g = c.args in
    let j = c.loop-j.j in
    rw (add-one j) (summed-more j (distance_term g.points.now g.x.now (length g.lengthscales.now) g.lengthscales.now g.i) _ c.loop-j.s c.squares-s.result (λ p h. refl) c.loop-j.invariant c.squares-s.ensures)
