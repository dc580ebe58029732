-- `factor::decompose::rows` meets its contract: before each turn the first i rows are written, and their pivots are above 0. Assumes nothing.
use mathlib.Core.Path.{◌≡◌, refl, sym, ◌∙◌}
use native.Mathlib.Numerals.{add-one}
use native.Mathlib.Omega.{arith}
use mathlib.Core.Bool.{true, false, true≢false}
use Rattle.arith.specs.Lists.{every}
use Rattle.factor.specs.Triangle.{rows_of}
use Rattle.arith.proofs.Lists.{every-not}
use Rattle.factor.proofs.decompose.rows.Goals as goal

pub loop-i-init : goal.loop-i-init
unfolding rows_of every
loop-i-init c = (c.requires.1, refl)

pub returns-then-not-row : goal.returns-then-not-row
returns-then-not-row c =
    let no : c.row.result ≡ false = c.if-not-row.true in
    (sym (every-not c.args.n _ c.loop-i.i (omega arith) (sym c.row.ensures.0 ∙ no)), λ z. absurd (true≢false (sym z)))

pub loop-i-preserved : goal.loop-i-preserved
unfolding every
loop-i-preserved c =
    let yes : c.row.result ≡ true = c.if-not-row.false in
    (c.row.ensures.1 yes, rw (add-one c.loop-i.i, c.loop-i.invariant.1) (sym c.row.ensures.0 ∙ yes))
