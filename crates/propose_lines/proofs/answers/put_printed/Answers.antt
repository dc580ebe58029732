-- `propose_lines::answers::put_printed` meets its contract. Assumes nothing.
use Prim.Native.Nat.{◌+◌, ◌-◌}
use native.Mathlib.Omega.{arith}
use Rattle.std.proofs.lemmas.Slice.{put_mid-paste}
use Rattle.propose_lines.specs.Lines.{printed}
use Rattle.propose_lines.proofs.AnswerLine.{printed-length}
use Rattle.propose_lines.proofs.answers.put_printed.Goals as goal

pub returns : goal.returns
returns c =
    let a = c.args in
    let n = printed-length a.w a.end in
    put_mid-paste a.at (a.at + 17 - a.at) a.line.now _ (printed a.w a.end) 17 (rw (c.copy_from_slice.ensures.after, c.printed.ensures)) (omega arith) (omega arith)
