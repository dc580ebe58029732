-- `factor::backward` meets its contract: before each turn the unknowns from i on are known. Assumes nothing.
use Prim.Native.Nat.{suc, ◌+◌, ◌-◌}
use mathlib.Core.Path.{◌≡◌, ap, ◌∙◌}
use native.Mathlib.Omega.{arith}
use lib.ListN.{take}
use Rattle.arith.specs.Lists.{padded}
use Rattle.factor.proofs.Back.{back_none, back-next, front_length}
use Rattle.factor.proofs.backward.Goals as goal

pub loop-i-init : goal.loop-i-init
loop-i-init c =
    let none : c.args.n - c.args.n ≡ 0 = omega arith in
    c.requires.1 ∙ rw none (ap (padded 100) (back_none _ _ _ (front_length _ _ c.requires.0 c.requires.1)))

pub loop-i-preserved : goal.loop-i-preserved
loop-i-preserved c =
    let n = c.args.n in
    let i = c.loop-i.i - 1 in
    let m = n - c.loop-i.i in
    let here : c.loop-i.i ≡ suc i = omega arith in
    let before : n - i ≡ suc m = omega arith in
    let behind : n - (i + 1) ≡ m = omega arith in
    rw before (back-next c.args.l.now (take n c.args.x.now) c.loop-i.x n m i _ (front_length _ n c.requires.0 c.requires.1) (omega arith) (rw (← here) c.loop-i.invariant) (rw behind at c.unknown.ensures))
