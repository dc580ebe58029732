-- `propose_text::pieces::put` meets its contract. Assumes nothing.
use Prim.Native.Nat.{◌+◌, ◌-◌}
use mathlib.Core.Path.{◌≡◌, ap, ◌∙◌, sym}
use native.Mathlib.Omega.{arith}
use lib.ListN.{length}
use Rattle.std.proofs.lemmas.Slice.{put_mid-paste}
use Rattle.text_laws.specs.Steps.{written_in}
use Rattle.propose_text.proofs.pieces.put.Goals as goal

pub returns-in-Some-clause-bytes : goal.returns-in-Some-clause-bytes
returns-in-Some-clause-bytes c =
    let a = c.args in
    put_mid-paste a.at (a.at + 68 - a.at) a.out.now _ (written_in a.step.now.line) 68 (c.copy_from_slice.ensures.after ∙ sym (ap written_in c.in-Some.is)) (omega arith) (let e : length (written_in a.step.now.line) ≡ length c.in-Some.line = ap length (ap written_in c.in-Some.is) in omega arith)
