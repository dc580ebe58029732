-- `propose_lines::answers::answer_line` meets its contract. Assumes nothing.
use mathlib.Core.Path.{refl}
use lib.ListN.{replicate}
use Rattle.propose_lines.specs.Lines.{answer_line}
use Rattle.propose_lines.proofs.AnswerLine.{four_words}
use Rattle.propose_lines.proofs.answers.answer_line.Goals as goal

pub returns : goal.returns
unfolding answer_line
returns c = rw (c.put_printed-4.ensures, c.put_printed-3.ensures, c.put_printed-2.ensures, c.put_printed.ensures) (four_words (replicate 68 0) _ _ _ _ refl)
