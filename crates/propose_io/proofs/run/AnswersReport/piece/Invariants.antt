use Rattle.std.proofs.Common.{◌≤◌, ◌≡◌, ◌-◌, length, drop}
use Rattle.propose_text.specs.Partial.{partial_of}
use Rattle.text_laws.specs.Pieces.{piece_of}
use Rattle.propose_io.proofs.run.AnswersReport.piece.Given as goal

abbrev pub invariant-loop-used : goal.invariant-loop-used
invariant-loop-used l = record {
  within : l.used ≤ length l.piece;
  text : (piece_of (partial_of l.text) (drop l.used l.piece)).text ≡ (piece_of (partial_of l.fn.text) l.piece).text;
}

abbrev pub decreases-loop-used : goal.decreases-loop-used
decreases-loop-used l = length l.piece - l.used
