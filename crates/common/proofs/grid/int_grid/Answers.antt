-- `common::grid::int_grid` meets its contract: nothing saturates. Assumes nothing.
use mathlib.Core.Path.{◌≡◌, ◌∙◌, sym, ap, subst}
use lib.Ieee.{binary64, sub, div, of_int, to_signed}
use mir.Syntax.{w64}
use mir.ValLaws.{to_z-of_z}
use Rattle.std.specs.Prelude.{IfSome}
use Rattle.arith.specs.Rounding.{round_of}
use Rattle.distribution.proofs.Whole.{ReadBack}
use Rattle.common.specs.Grid.{int_grid, steps_to}
use Rattle.common.specs.GridParts.{StepFits}
use Rattle.common.proofs.Saturate.{exact}
use borrow.Author.Rules.{rules}
use Rattle.common.proofs.grid.int_grid.Goals as goal

pub returns-in-Some : goal.returns-in-Some
unfolding int_grid
returns-in-Some c =
    let a = c.args in
    let s = c.in-Some.step in
    let low : ReadBack a.d.low = search rules in
    let step : ReadBack s = search rules in
    let back : ReadBack c.int_of_float-k.result = search rules in
    let f : StepFits a.d.low s a.v = subst (λ o. IfSome o (λ step. StepFits a.d.low step a.v)) c.in-Some.is c.requires in
    let k : c.int_of_float-k.result ≡ steps_to a.d.low s a.v =
    c.int_of_float-k.ensures
    ∙ ap (to_signed 63) (c.round.ensures ∙ ap round_of (λ i. div binary64 (sub binary64 a.v ((c.float_of_int.ensures ∙ ap (of_int binary64) low) i)) ((c.float_of_int-in-Some.ensures ∙ ap (of_int binary64) step) i)))
    in
    rw (low, step, back, k, to_z-of_z w64 _ f.product, to_z-of_z w64 _ f.sum, c.in-Some.is) (sym (exact a.d.low s a.v f))
