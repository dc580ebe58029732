use mathlib.Core.Path.{◌≡◌}
use mathlib.Core.List.{◌++◌}
use lib.ListN.{length, drop}
use Rattle.word_text.specs.Digits.{last_digits, digits_of}
use Rattle.word_text.proofs.print.Given as goal

abbrev pub invariant-loop-i : goal.invariant-loop-i
invariant-loop-i l = (length l.out ≡ 16) × (last_digits l.i l.rest ++ drop l.i l.out ≡ digits_of l.w)
