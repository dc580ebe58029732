-- `factor::decompose::left` meets its contract: before each turn the rows before row i and the first j entries of row i are written. Assumes nothing.
use Prim.Native.Nat.{◌+◌, ℕ}
use mathlib.Core.Path.{◌≡◌, sym, ap, ◌∙◌}
use native.Mathlib.Numerals.{add-one}
use native.Mathlib.Omega.{arith}
use lib.ListN.{get_or}
use lib.Ieee.{nan}
use Rattle.arith.specs.Lists.{padded}
use Rattle.factor.specs.Triangle.{at, entry}
use Rattle.factor.proofs.Triangle.{from_start, filled_none}
use Rattle.factor.proofs.Columns.{next-below}
use Rattle.factor.proofs.decompose.left.Goals as goal

pub loop-j-init : goal.loop-j-init
loop-j-init c = c.requires.1 ∙ ap (padded 5050) (sym (filled_none _ _))

pub loop-j-preserved : goal.loop-j-preserved
loop-j-preserved c =
    let g = c.args in
    let j = c.loop-j.j in
    let s : c.place-p.result + j ≡ at g.i j = from_start _ j c.place-p.ensures.0 in
    rw (add-one j) (next-below (entry g.a.now) g.i j _ _ _ _ _ (omega arith) (omega arith) c.loop-j.invariant s c.place.ensures.0 (ap (λ (n : ℕ). get_or g.a.now n nan) s) c.rest-v.ensures)
