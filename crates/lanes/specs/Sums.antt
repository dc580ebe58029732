-- Dot products of eight lanes. Definitions only.
use Rattle.std.specs.Prelude.{ℕ, List, get_or, Float}
use Rattle.std.specs.Float.{nan, binary64}
use Rattle.std.specs.Float.Ieee.{mul}
use Rattle.arith.specs.Sums.{sum_over}
use Rattle.lanes.specs.Rows.{cell, eight_of}

-- of the first n rows of a and b
abbrev pub dots_of : List (List Float) → List (List Float) → ℕ → List Float
dots_of a b n = eight_of (λ p. sum_over n (λ i. mul binary64 (cell a i p) (cell b i p)))

-- of the first n rows of a and one list
abbrev pub dots_each_of : List (List Float) → List Float → ℕ → List Float
dots_each_of a b n = eight_of (λ p. sum_over n (λ i. mul binary64 (cell a i p) (get_or b i nan)))
