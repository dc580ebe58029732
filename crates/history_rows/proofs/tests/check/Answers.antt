-- `history_rows::tests::check` meets its contract. Assumes nothing.
use mathlib.Core.Path.{sym, ◌∙◌}
use lib.Ieee.Fits.{eq→eqb}
use borrow.Author.Tests.{le-leb, lt-leb, ne_eqb, eq-eqb}
use Rattle.history_rows.specs.Rows.{whole_rows}
use Rattle.history_rows.specs.Tests.{check_of}
use Rattle.history_rows.proofs.Passed.{check-recent}
use Rattle.history_rows.proofs.Recent.{recent-part, recent-whole}
use borrow.Author.Rules.{rules}
use Rattle.history_rows.proofs.tests.check.Goals as goal
use Rattle.history_rows.proofs.tests.check.Goals.{then-slots-lt1-via-then-slots-lt1, then-slots-lt1-via-else-slots-lt1+then-slots-gt20}

pub returns-then-slots-lt1 : goal.returns-then-slots-lt1
unfolding check_of
returns-then-slots-lt1 c = elim c.then-slots-lt1.branch [
  | then-slots-lt1-via-then-slots-lt1 w ↦ rw (lt-leb 1 _ w.if-slots-lt1.true)
  | then-slots-lt1-via-else-slots-lt1+then-slots-gt20 w ↦ rw (le-leb 1 _ w.if-slots-lt1.false, lt-leb _ 20 w.if-slots-gt20.true)
]

pub returns-then-h-slots-ne0 : goal.returns-then-h-slots-ne0
unfolding check_of whole_rows
returns-then-h-slots-ne0 c = rw (le-leb 1 _ c.if-slots-lt1.false, le-leb _ 20 c.if-slots-gt20.false, ne_eqb _ _ c.if-h-slots-ne0.true)

pub invariant_of-recent : goal.invariant_of-recent
invariant_of-recent c =
    let a = c.args in
    record {
      few = search rules;
      whole = rw (recent-part a.slots a.h.now c.older-start.result c.older-start.ensures) (recent-whole a.slots a.h.now (unfold whole_rows in eq→eqb c.if-h-slots-ne0.false));
    }

pub returns : goal.returns
returns c =
    let a = c.args in
    c.check.ensures
    ∙ rw (recent-part a.slots a.h.now c.older-start.result c.older-start.ensures)
    (sym (check-recent a.slots a.h.now (le-leb 1 _ c.if-slots-lt1.false) (le-leb _ 20 c.if-slots-gt20.false) (unfold whole_rows in eq-eqb _ _ c.if-h-slots-ne0.false)))
