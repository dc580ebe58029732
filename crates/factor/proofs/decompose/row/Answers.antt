-- `factor::decompose::row` meets its contract, by the pivot. Assumes nothing.
use mathlib.Core.Path.{◌≡◌, sym, ap, ◌∙◌}
use mathlib.Core.Bool.{true, false, true≢false}
use Prim.Native.Nat.{ℕ}
use native.Mathlib.Numerals.{add-one}
use native.Mathlib.Omega.{arith}
use lib.ListN.{get_or}
use lib.Ieee.{nan, binary64, lt, of_bits}
use Rattle.factor.specs.Triangle.{entry}
use Rattle.factor.proofs.Columns.{next-pivot, next-diagonal}
use Rattle.factor.proofs.decompose.row.Goals as goal

pub returns-then-pivot : goal.returns-then-pivot
returns-then-pivot c =
    let g = c.args in
    let e = ap (λ (n : ℕ). get_or g.a.now n nan) c.place-d.ensures.0 in
    let above : lt (of_bits binary64 0) c.rest-pivot.result ≡ true = c.if-pivot.true in (
      sym above ∙ ap (lt (of_bits binary64 0)) (next-pivot (entry g.a.now) g.i _ _ _ c.left.ensures e c.rest-pivot.ensures),
      λ _. rw (c.sqrt.ensures, add-one g.i) (next-diagonal (entry g.a.now) g.i _ _ _ c.left.ensures e c.rest-pivot.ensures _ (omega arith) c.place-d.ensures.0),
    )

pub returns : goal.returns
returns c =
    let g = c.args in
    let e = ap (λ (n : ℕ). get_or g.a.now n nan) c.place-d.ensures.0 in
    let under : lt (of_bits binary64 0) c.rest-pivot.result ≡ false = c.if-pivot.false in (
      sym under ∙ ap (lt (of_bits binary64 0)) (next-pivot (entry g.a.now) g.i _ _ _ c.left.ensures e c.rest-pivot.ensures),
      λ z. absurd (true≢false (sym z)),
    )
