use Prim.Native.Nat.{◌+◌, ◌*◌, ◌≤◌}
use mathlib.Core.Path.{◌≡◌}
use mathlib.Core.Bool.{true}
use lib.ListN.{length}
use lib.Seq.{paste}
use Rattle.arith.specs.Lists.{every}
use Rattle.propose_lines.specs.Lines.{is_word, word_at, words_in}
use Rattle.propose_lines.proofs.lines.store_words.Given as goal

abbrev pub invariant-loop-i : goal.invariant-loop-i
invariant-loop-i l =
    (length l.line + 1 ≡ 17 * l.k) × (l.at + l.k ≤ length l.initial.out) × (every l.i (λ j. is_word (word_at l.line j)) ≡ true) × (length l.out ≡ length l.initial.out) × (l.out ≡ paste l.initial.out l.at (words_in l.k l.line) l.i)
