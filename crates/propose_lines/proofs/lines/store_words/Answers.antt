-- `propose_lines::lines::store_words` meets its contract. The loop's invariant: the first i words stand in the array from `at` on. Assumes nothing.
use Prim.Native.Nat.{◌+◌, ◌*◌, ◌-◌}
use mathlib.Core.Path.{◌≡◌, sym, ap, ◌∙◌}
use mathlib.Core.Bool.{false, false≢true}
use native.Mathlib.Numerals.{add-one}
use native.Mathlib.Omega.{arith}
use borrow.Author.Rules.{rules}
use lib.ListN.{set, length-set}
use lib.Seq.{paste, paste-suc}
use Rattle.arith.specs.Lists.{every}
use Rattle.arith.proofs.Lists.{every-not}
use Rattle.propose_lines.specs.Lines.{is_word, word_of, word_at, words_in}
use Rattle.propose_lines.proofs.Words.{words_length, words_at}
use Rattle.propose_lines.proofs.Stored.{words_kept, leading_first}
use Rattle.propose_lines.proofs.lines.store_words.Goals as goal
use Rattle.propose_lines.proofs.lines.store_words.Goals.{After-parse}

-- the word that is read is word i of the line
parsed : (c : After-parse) → word_at c.args.line.now c.loop-i.i ≡ c.parse.result
unfolding word_at
parsed c =
    let i = c.loop-i.i in
    let e : 17 * i + 16 - 17 * i ≡ 16 = omega arith in
    sym (rw e at c.parse.ensures)

pub returns-in_default : goal.returns-in_default
returns-in_default c =
    let a = c.args in
    let bad : is_word (word_at a.line.now c.loop-i.i) ≡ false = ap is_word (parsed (goal.at.returns-in_default c).After-parse ∙ c.in_default.is) in
    record {
      is = sym (every-not _ _ c.loop-i.i (omega arith) bad);
      kept = rw c.loop-i.invariant.4 (words_kept a.out.now a.at a.k a.line.now (omega arith) c.loop-i.i (omega arith));
      read = λ e. absurd (false≢true e);
      left = rw (leading_first a.k a.line.now c.loop-i.i (omega arith) c.loop-i.invariant.2 bad) c.loop-i.invariant.4;
    }

pub loop-i-preserved : goal.loop-i-preserved
unfolding every
loop-i-preserved c =
    let a = c.args in
    let n = words_length a.k a.line.now in
    let w = parsed (goal.at.loop-i-preserved c).After-parse ∙ c.in-Some.is in
    let v = words_at a.k a.line.now c.loop-i.i (omega arith) ∙ ap word_of w in (
      search rules,
      search rules,
      rw (add-one, c.loop-i.invariant.2, w),
      simp length-set c.loop-i.invariant.3,
      rw (c.loop-i.invariant.4, add-one) (ap (set (paste a.out.now a.at (words_in a.k a.line.now) c.loop-i.i) (a.at + c.loop-i.i)) (sym v) ∙ paste-suc a.out.now a.at (words_in a.k a.line.now) c.loop-i.i 0 (omega arith) (omega arith)),
    )
