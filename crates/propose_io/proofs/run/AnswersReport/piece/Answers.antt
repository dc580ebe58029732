-- `propose_io::run::AnswersReport::piece` meets its contract: after each part the text is that after the bytes so far. Assumes nothing.
use Rattle.std.proofs.Common.{◌≡◌, ◌≤◌, ◌-◌, min, length, take, drop, ℕ, List, sym, ap, ap₂, ◌∙◌, arith, length-drop}
use lib.Seq.{take_all, drop-drop}
use native.Mathlib.Nat.{min-le_left}
use Rattle.propose_text.specs.Partial.{partial_of}
use Rattle.text_laws.specs.Pieces.{Partial, piece_of}
use Rattle.propose_text.proofs.UpToStep.{take-min, piece-parts, end_text}
use Rattle.propose_io.proofs.run.AnswersReport.piece.Goals as goal

pub loop-used-preserved : goal.loop-used-preserved
loop-used-preserved c =
    let p = c.args.piece.now in
    let l = c.loop-used in
    let used = l.used in
    let t = partial_of l.text in
    let left = drop used p in
    let d = length-drop used p in
    let q : take (length p - used) left ≡ left = take_all (length p - used) left (omega arith) in
    let more = c.read_piece-put.ensures in
    let n = c.read_piece-put.result.used in
    let count : n ≡ min (length left) 960 = more.used ∙ ap (λ (s : List ℕ). min (length s) 960) q in
    let part : min (length left) 960 ≤ length left = min-le_left (length left) 960 in
    let text : partial_of c.read_piece-put.new.self ≡ (piece_of t (take n left)).text =
    more.text ∙ ap (λ (s : List ℕ). (piece_of t (take 960 s)).text) q ∙ ap (λ (s : List ℕ). (piece_of t s).text) (sym (take-min left 960 n count)) in
    record {
      within = omega arith;
      text = ap₂ (λ (u : Partial) (s : List ℕ). (piece_of u s).text) text (sym (drop-drop n used p)) ∙ piece-parts n t left ∙ l.invariant.text;
    }

pub returns : goal.returns
returns c =
    let l = c.loop-used in
    let p = c.args.piece.now in
    end_text (partial_of l.text) p l.used (omega arith) (piece_of (partial_of c.args.text.now) p).text l.invariant.text
