use mathlib.Core.Path.{◌≡◌}
use mathlib.Core.Bool.{true}
use lib.ListN.{length, take}
use Rattle.word_text.specs.Digits.{all_digits, of_digits}
use Rattle.word_text.proofs.parse.Given as goal

abbrev pub invariant-loop-b : goal.invariant-loop-b
invariant-loop-b l = (length l.s ≡ 16) × (all_digits (take l.b-index l.s) ≡ true) × (l.n ≡ of_digits (take l.b-index l.s))
