use Rattle.std.proofs.Common.{◌≤◌, ◌≡◌, ◌+◌, ◌-◌, ◌*◌, ◌++◌, length, take, drop}
use Rattle.propose_text.specs.Partial.{partial_of}
use Rattle.text_laws.specs.Pieces.{piece_of}
use Rattle.propose_text.proofs.text.Text.read_steps.Given as goal

abbrev pub invariant-loop-used : goal.invariant-loop-used
invariant-loop-used l = record {
  within : l.used ≤ length l.piece;
  long : length l.out ≡ 65280;
  room : l.len + 68 * (length l.piece - l.used) ≤ 65280;
  text : (piece_of (partial_of l.self) (drop l.used l.piece)).text ≡ (piece_of (partial_of l.fn.self) l.piece).text;
  written : take l.len l.out ++ (piece_of (partial_of l.self) (drop l.used l.piece)).written ≡ (piece_of (partial_of l.fn.self) l.piece).written;
  left : drop l.len l.out ≡ drop l.len l.fn.out;
}

abbrev pub decreases-loop-used : goal.decreases-loop-used
decreases-loop-used l = length l.piece - l.used
