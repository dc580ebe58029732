-- `history_rows::rows::row_ok` meets its contract. Assumes nothing.
use borrow.Author.Tests.{le-leb, lt-leb}
use mathlib.Core.Path.{sym}
use lib.Ieee.{of_bits, neg}
use Rattle.history_rows.specs.Tests.{row_ok}
use Rattle.history_rows.proofs.rows.row_ok.Goals as goal

pub returns-then-objective : goal.returns-then-objective
unfolding row_ok of_bits neg
returns-then-objective c = rw (sym c.word-state.ensures, le-leb _ _ c.if-state-le3.true, sym c.word.ensures, sym c.float_of_word-objective.ensures, c.if-objective.true)

pub returns-else-objective : goal.returns-else-objective
unfolding row_ok of_bits neg
returns-else-objective c = rw (sym c.word-state.ensures, le-leb _ _ c.if-state-le3.true, sym c.word.ensures, sym c.float_of_word-objective.ensures, c.if-objective.false)

pub returns-else-state-le3 : goal.returns-else-state-le3
unfolding row_ok
returns-else-state-le3 c = rw (sym c.word-state.ensures, lt-leb _ _ c.if-state-le3.false)
