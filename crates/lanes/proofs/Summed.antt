-- Sums of eight lanes at once: each lane gains its own term. Assumes nothing.
use mathlib.Core.Path.{◌≡◌, refl, ◌∙◌}
use mathlib.Core.List.{List}
use Prim.Native.Nat.{ℕ, suc, ◌<◌}
use lib.ListN.{get_or}
use lib.Ieee.{Float, nan, binary64, add}
use Rattle.arith.specs.Lists.{grown}
use Rattle.arith.specs.Sums.{sum_over}
use Rattle.lanes.specs.Rows.{eight_of, zero_row}
use Rattle.lanes.proofs.Rows.{eight-at, eight-same}

-- each lane of s is the sum of its first n terms
abbrev pub Summed : ℕ → (ℕ → ℕ → Float) → List Float → Type 0
Summed n t s = s ≡ eight_of (λ p. sum_over n (t p))

pub summed-none : (t : ℕ → ℕ → Float) → Summed 0 t zero_row
unfolding grown sum_over
summed-none t = refl

-- one term more
pub summed-more : (n : ℕ) (t : ℕ → ℕ → Float) (u : ℕ → Float) (s r : List Float) → ((p : ℕ) → p < 8 → u p ≡ t p n) → Summed n t s → r ≡ eight_of (λ p. add binary64 (get_or s p nan) (u p)) → Summed (suc n) t r
unfolding sum_over
summed-more n t u s r h e q = q ∙ eight-same _ _ (λ p g. rw (eight-at _ e p g, h p g))
