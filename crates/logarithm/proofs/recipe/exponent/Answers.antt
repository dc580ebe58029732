use mathlib.Core.Path.{◌≡◌, ap, ◌∙◌}
use Prim.Native.Nat.{ℕ, suc, ◌-◌, ◌<◌}
use native.Mathlib.Omega.{arith}
use borrow.Author.Tests.{lt-leb}
use mathlib.Core.Bool.{true}
use lib.IntN.{pos}
use lib.Ieee.{binary64, of_int, minus, neg, round}
use Rattle.arith.proofs.Within.{neg-round}
use Rattle.logarithm.proofs.recipe.exponent.Goals as goal

below : (n : ℕ) → n < 1023 → neg (of_int binary64 (pos (1023 - n))) ≡ of_int binary64 (minus n 1023)
unfolding of_int
below n h = rw (lt-leb 1023 n h) (neg-round binary64 (1023 - n) 1 ∙ ap (λ (k : ℕ). round binary64 true k 1) (let e : 1023 - n ≡ suc (1023 - suc n) = omega arith in e))

pub returns-else-field-ge1023 : goal.returns-else-field-ge1023
returns-else-field-ge1023 c = below _ c.if-field-ge1023.false
