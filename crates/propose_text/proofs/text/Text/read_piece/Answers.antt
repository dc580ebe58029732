-- `propose_text::text::Text::read_piece` meets its contract. Assumes nothing.
use Rattle.std.proofs.Common.{◌≡◌, length, take, ℕ, List, ap, ◌∙◌}
use Rattle.propose_text.specs.Partial.{partial_of, put_first}
use Rattle.text_laws.specs.Pieces.{piece_of}
use Rattle.propose_text.proofs.UpToStep.{take-min}
use Rattle.propose_text.proofs.text.Text.read_piece.Goals as goal

pub returns : goal.returns
returns c =
    let t = partial_of c.args.self.now in
    let e : take c.min-used.result c.args.piece.now ≡ take 960 c.args.piece.now = take-min c.args.piece.now 960 c.min-used.result c.min-used.ensures in
    record {
      used = c.min-used.ensures;
      text = c.read_steps-len.ensures.text ∙ ap (λ (s : List ℕ). (piece_of t s).text) e;
      count = c.read_steps-len.ensures.count ∙ ap (λ (s : List ℕ). length (piece_of t s).written) e;
      room = c.read_steps-len.ensures.room;
      bytes = c.read_steps-len.ensures.bytes ∙ ap (λ (s : List ℕ). put_first (piece_of t s).written c.args.out.now) e;
    }
