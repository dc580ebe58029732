-- `gp_model::kernels::Covariances::write_row` meets its contract: before each turn the row holds its first j entries. Assumes nothing.
use Prim.Native.Nat.{suc}
use mathlib.Core.Path.{◌≡◌, ap}
use native.Mathlib.Numerals.{add-one}
use native.Mathlib.Omega.{arith}
use Rattle.arith.specs.Lists.{padded}
use Rattle.factor.proofs.Triangle.{filled_none, filled-set, filled-all}
use Rattle.gp_model.proofs.kernels.Covariances.write_row.Goals as goal

pub loop-j-init : goal.loop-j-init
loop-j-init c = rw filled_none c.requires.1

pub loop-j-preserved : goal.loop-j-preserved
loop-j-preserved c =
    let l = c.loop-j in
    rw (c.entry.ensures, l.invariant, add-one l.j) (filled-set _ c.args.i l.j (omega arith) (omega arith))

pub returns : goal.returns
returns c =
    let i = c.args.i in
    let e : c.loop-j.j ≡ suc i = omega arith in
    rw (c.loop-j.invariant, e, add-one i) (ap (padded 5050) (filled-all _ i))
