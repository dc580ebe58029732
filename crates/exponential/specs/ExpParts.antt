-- The parts of exp below 0. Definitions only.
use Rattle.std.specs.Prelude.{ℕ, ◌-◌, false, cond, not, T, pos, from_bits, Float}
use Rattle.std.specs.Float.{fin, binary64}
use Rattle.std.specs.Float.Ieee.{mul, neg, lt, minus, of_int}
use Rattle.exponential.specs.Exp.{horner_of, reduced_of, log2e, one}
use Rattle.arith.specs.Rounding.{nearest_of}

-- from -708 up, and below 0
abbrev pub Falling : Float → Type 0
Falling x = T (lt x (from_bits binary64 0)) × T (not (lt x (neg (from_bits binary64 0x4086200000000000))))

-- the size of k there, else 0
unfoldable pub size_of : Float → ℕ
unfolding nearest_of
size_of x = cond (lt x (from_bits binary64 0)) (cond (lt x (neg (from_bits binary64 0x4086200000000000))) 0 (nearest_of (mul binary64 x log2e))) 0

-- p × 2^k with k = -n
unfoldable pub falling_of : Float → ℕ → Float
unfolding horner_of reduced_of
falling_of x n = mul binary64 (horner_of 13 (reduced_of x (neg (of_int binary64 (pos n)))) one) (fin false 1 (minus (1023 - n) 1023))
