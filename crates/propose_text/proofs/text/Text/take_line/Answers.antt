-- `propose_text::text::Text::take_line` meets its contract. Assumes nothing.
use Rattle.std.proofs.Common.{◌<◌, ◌≡◌, ◌-◌, length, take, false, sym, ap, ◌∙◌, arith}
use lib.Seq.{length-take-le, take_all}
use Rattle.propose_text.specs.Partial.{partial_of}
use Rattle.text_laws.specs.Pieces.{Partial, longer, line_end, has_ended, told_step}
use Rattle.propose_text.proofs.UpToStep.{used_up, none_after, taken-ended, taken-whole, taken-newline, taken-too-long}
use Rattle.propose_text.proofs.text.Text.take_line.Goals as goal

pub returns-then-ended-clause-answer : goal.returns-then-ended-clause-answer
returns-then-ended-clause-answer c = sym (taken-ended (partial_of c.args.self.now) c.args.piece.now (sym c.ended.ensures ∙ c.if-ended.true))

pub returns-then-n-room-clause-answer : goal.returns-then-n-room-clause-answer
returns-then-n-room-clause-answer c =
    let s = c.args.self.now in
    let room = 2770 - s.len in
    let l : length (take s.len s.line) ≡ s.len = length-take-le s.len s.line (omega arith) in
    let e : has_ended s.reader.stage ≡ false = sym c.ended.ensures ∙ c.if-ended.false in
    ap (used_up room) c.too_long.ensures
    ∙ sym (taken-too-long (partial_of s) c.args.piece.now room e (λ k h. c.before_newline-n.ensures.before k (omega arith)) (omega arith) (omega arith) (c.before_newline-n.ensures.before room (omega arith)))

pub returns-then-n-piece-clause-answer : goal.returns-then-n-piece-clause-answer
returns-then-n-piece-clause-answer c =
    let s = c.args.self.now in
    let n = c.before_newline-n.result in
    let l : length (take s.len s.line) ≡ s.len = length-take-le s.len s.line (omega arith) in
    let e : has_ended s.reader.stage ≡ false = sym c.ended.ensures ∙ c.if-ended.false in
    ap (none_after n) (c.keep.ensures ∙ ap (longer (partial_of s)) (take_all n c.args.piece.now (omega arith)))
    ∙ sym (taken-whole (partial_of s) c.args.piece.now n e c.before_newline-n.ensures.before (omega arith) (omega arith))

pub returns-clause-answer : goal.returns-clause-answer
returns-clause-answer c =
    let s = c.args.self.now in
    let n = c.before_newline-n.result in
    let p = c.args.piece.now in
    let l : length (take s.len s.line) ≡ s.len = length-take-le s.len s.line (omega arith) in
    let e : has_ended s.reader.stage ≡ false = sym c.ended.ensures ∙ c.if-ended.false in
    let m : n < length p = omega arith in
    ap (used_up n) (c.end_line.ensures ∙ ap (λ (u : Partial). told_step (line_end u)) c.keep.ensures)
    ∙ sym (taken-newline (partial_of s) p n e c.before_newline-n.ensures.before m (omega arith) (c.before_newline-n.ensures.found m))
