-- `factor::forward` meets its contract: before each turn z holds the first i elements. Assumes nothing.
use mathlib.Core.Path.{refl}
use native.Mathlib.Numerals.{add-one}
use native.Mathlib.Omega.{arith}
use Rattle.arith.specs.Lists.{grown}
use Rattle.factor.proofs.Grow.{forward-next}
use Rattle.factor.proofs.forward.Goals as goal

pub loop-i-init : goal.loop-i-init
unfolding grown
loop-i-init c = refl

pub loop-i-preserved : goal.loop-i-preserved
loop-i-preserved c =
    rw (add-one c.loop-i.i) (forward-next _ _ _ c.loop-i.i _ (omega arith) c.loop-i.invariant c.next.ensures)
