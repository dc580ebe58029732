-- "Sum and dot: left to right from +0." Definitions only.
use Rattle.refusal.specs.declared.Refusal.TheVariants.{OutOfDomain}
use Rattle.refusal.specs.declared.Refusal.{Refusal}
use Rattle.std.specs.Prelude.{ℕ, zero, suc, List, length, ◌==◌, from_bits, slice_index_or, Float, Result, Ok, Err}
use Rattle.std.specs.Float.{nan, binary64}
use Rattle.std.specs.Float.Ieee.{add, mul}
use Rattle.arith.specs.Outcome.{pick}

-- t 0 + t 1 + .. + t (n - 1), from the left, from +0
unfoldable pub sum_over : ℕ → (ℕ → Float) → Float
sum_over zero t = from_bits binary64 0
sum_over (suc n) t = add binary64 (sum_over n t) (t n)

-- of two lists of one length
abbrev pub products : List Float → List Float → Float
products xs ys = sum_over (length xs) (λ i. mul binary64 (slice_index_or xs i nan) (slice_index_or ys i nan))

-- "lists of unequal length .. are 11"
abbrev pub dot_of : List Float → List Float → Result Float Refusal
dot_of xs ys = pick (length xs == length ys) (Ok (products xs ys)) (Err OutOfDomain)
