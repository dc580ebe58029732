-- `search::eights::points` meets its contract: before each turn the array holds the j coordinates passed, and the words have moved j times. Assumes nothing.
use mathlib.Core.Path.{refl}
use native.Mathlib.Numerals.{add-one}
use native.Mathlib.Omega.{arith}
use lib.Ieee.{of_bits}
use Rattle.arith.specs.Lists.{grown}
use Rattle.arith.proofs.Lists.{grown-filled-set}
use Rattle.lanes.specs.Rows.{zero_row}
use Rattle.rng_util.specs.Generator.{moved_of}
use Rattle.rng_util.proofs.Nonzero.{moved-nonzero}
use Rattle.search.proofs.Beside.{column-values, column-next}
use Rattle.search.proofs.eights.points.Goals as goal

pub loop-j-init : goal.loop-j-init
unfolding grown moved_of of_bits
loop-j-init c = (refl, λ p h. refl)

pub loop-j-preserved : goal.loop-j-preserved
loop-j-preserved c =
    let w = c.args.words.now in
    let j = c.loop-j.j in (
      rw (c.loop-j.invariant.0, add-one j, column-values w c.loop-j.at j _ c.requires.1 c.loop-j.invariant.1 c.column.ensures) (grown-filled-set zero_row 20 _ j (omega arith)),
      rw (add-one j) (column-next w c.loop-j.at j _ c.requires.1 c.loop-j.invariant.1 c.column.ensures),
    )

pub column-requires : goal.column-requires
column-requires c p h = rw (c.loop-j.invariant.1 p h) (moved-nonzero c.loop-j.j _ (c.requires.1 p h))
