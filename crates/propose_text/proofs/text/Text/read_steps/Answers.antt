-- `propose_text::text::Text::read_steps` meets its contract. The loop's invariant: what is put so far, and what is written for the bytes left, are what is written for the piece. Assumes nothing.
use Rattle.std.proofs.Common.{◌≤◌, ◌≡◌, ◌+◌, ◌++◌, length, take, drop, ℕ, ◌-◌, List, ap, ap₂, ◌∙◌, arith, length-drop}
use lib.Seq.{take_all, paste}
use Rattle.propose_text.specs.Partial.{partial_of}
use Rattle.text_laws.specs.Pieces.{Partial, piece_of, taken_of, written_for}
use Rattle.propose_text.proofs.UpToStep.{step_text, step_written, step_left, end_text, end_count, end_bytes}
use Rattle.propose_text.proofs.text.Text.read_steps.Goals as goal

pub loop-used-preserved : goal.loop-used-preserved
loop-used-preserved c =
    let p = c.args.piece.now in
    let l = c.loop-used in
    let used = l.used in
    let t = partial_of l.self in
    let whole = partial_of c.args.self.now in
    let d = length-drop used p in
    let q : take (length p - used) (drop used p) ≡ drop used p = take_all (length p - used) (drop used p) (omega arith) in
    let more = c.read_step-more.ensures in
    let n = c.read_step-more.result.len in
    let text : partial_of c.read_step-more.new.self ≡ (taken_of t (drop used p)).text = more.text ∙ ap (λ (s : List ℕ). (taken_of t s).text) q in
    let moved : c.read_step-more.result.used ≡ (taken_of t (drop used p)).used = more.used ∙ ap (λ (s : List ℕ). (taken_of t s).used) q in
    let count : n ≡ length (written_for (taken_of t (drop used p)).step) = more.count ∙ ap (λ (s : List ℕ). length (written_for (taken_of t s).step)) q in
    let bytes : c.read_step-more.new.out ≡ paste l.out l.len (written_for (taken_of t (drop used p)).step) n = more.bytes ∙ ap (λ (s : List ℕ). paste l.out l.len (written_for (taken_of t s).step) n) q in
    let room : l.len ≤ length l.out = omega arith in
    record {
      within = omega arith;
      long = c.read_step-more.array_long;
      room = omega arith;
      text = ap₂ (λ (u : Partial) (i : ℕ). (piece_of u (drop (used + i) p)).text) text moved ∙ step_text t p used (piece_of whole p).text l.invariant.text;
      written =
          ap₂ (λ (a b : List ℕ). a ++ b) (ap (take (l.len + n)) bytes) (ap₂ (λ (u : Partial) (i : ℕ). (piece_of u (drop (used + i) p)).written) text moved)
          ∙ step_written t p used l.out l.len n (piece_of whole p).written room count l.invariant.written;
      left = ap (drop (l.len + n)) bytes ∙ step_left l.out c.args.out.now (written_for (taken_of t (drop used p)).step) l.len n room (omega arith) l.invariant.left;
    }

pub returns-clause-text : goal.returns-clause-text
returns-clause-text c =
    let l = c.loop-used in
    end_text (partial_of l.self) c.args.piece.now l.used (omega arith) (piece_of (partial_of c.args.self.now) c.args.piece.now).text l.invariant.text

pub returns-clause-count : goal.returns-clause-count
returns-clause-count c =
    let l = c.loop-used in
    let room : l.len ≤ length l.out = omega arith in
    end_count (partial_of l.self) c.args.piece.now l.used (omega arith) l.out c.args.out.now l.len (piece_of (partial_of c.args.self.now) c.args.piece.now).written room l.invariant.written

pub returns-clause-bytes : goal.returns-clause-bytes
returns-clause-bytes c =
    let l = c.loop-used in
    let room : l.len ≤ length l.out = omega arith in
    end_bytes (partial_of l.self) c.args.piece.now l.used (omega arith) l.out c.args.out.now l.len (piece_of (partial_of c.args.self.now) c.args.piece.now).written room l.invariant.written l.invariant.left
