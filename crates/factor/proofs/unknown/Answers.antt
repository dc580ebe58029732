-- `factor::unknown` meets its contract: before each turn s has lost the products of the unknowns before q. Assumes nothing.
use Prim.Native.Nat.{suc, ◌+◌, ◌-◌}
use mathlib.Core.Path.{◌≡◌}
use native.Mathlib.Omega.{arith}
use Rattle.factor.specs.Triangle.{less_of}
use Rattle.factor.proofs.Back.{back_more}
use Rattle.factor.proofs.unknown.Goals as goal

pub loop-q-init : goal.loop-q-init
unfolding less_of
loop-q-init c = let e : c.args.i + 1 - (c.args.i + 1) ≡ 0 = omega arith in rw e

pub loop-q-preserved : goal.loop-q-preserved
loop-q-preserved c =
    let n = c.loop-q.q - (c.args.i + 1) in
    let e : c.loop-q.q + 1 - (c.args.i + 1) ≡ suc n = omega arith in
    rw e (back_more _ _ c.args.i n _ _ c.place.ensures.0 (omega arith) c.loop-q.invariant)
