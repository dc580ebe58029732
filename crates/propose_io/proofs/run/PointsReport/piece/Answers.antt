-- `propose_io::run::PointsReport::piece` meets its contract: after each step the text is that after the bytes so far. Assumes nothing.
use Rattle.std.proofs.Common.{◌≡◌, ◌-◌, ◌+◌, length, take, drop, ℕ, List, ap, ap₂, ◌∙◌, arith, length-drop}
use lib.Seq.{take_all}
use Rattle.propose_text.specs.Partial.{partial_of}
use Rattle.text_laws.specs.Pieces.{Partial, piece_of, taken_of}
use Rattle.propose_text.proofs.UpToStep.{step_text, end_text}
use Rattle.propose_io.proofs.run.PointsReport.piece.Goals as goal

pub loop-used-preserved : goal.loop-used-preserved
loop-used-preserved c =
    let p = c.args.piece.now in
    let l = c.loop-used in
    let used = l.used in
    let t = partial_of l.text in
    let left = drop used p in
    let d = length-drop used p in
    let q : take (length p - used) left ≡ left = take_all (length p - used) left (omega arith) in
    let more = c.in_ok-used.ensures in
    let n = c.in_ok-used.field-0 in
    let count : n ≡ (taken_of t left).used = more.used ∙ ap (λ (s : List ℕ). (taken_of t s).used) q in
    let text : partial_of c.write_points.new.text ≡ (taken_of t left).text = more.text ∙ ap (λ (s : List ℕ). (taken_of t s).text) q in
    let within = more.within in
    let whole = (piece_of (partial_of c.args.text.now) p).text in
    record {
      within = omega arith;
      text = ap₂ (λ (u : Partial) (i : ℕ). (piece_of u (drop (used + i) p)).text) text count ∙ step_text t p used whole l.invariant.text;
    }

pub returns : goal.returns
returns c =
    let l = c.loop-used in
    let p = c.args.piece.now in
    end_text (partial_of l.text) p l.used (omega arith) (piece_of (partial_of c.args.text.now) p).text l.invariant.text
