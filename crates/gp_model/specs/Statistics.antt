-- Means, deviations and the standardised values of a fit. Tables are lists, row after row. Definitions only.
use Rattle.std.specs.Prelude.{ℕ, ◌+◌, ◌-◌, ◌*◌, Bool, cond, List, ltb, pos, length, get_or, Float}
use Rattle.std.specs.Float.{nan, binary64}
use Rattle.std.specs.Float.Ieee.{sub, div, le, of_bits, of_int}
use Rattle.arith.specs.Bounds.{abs}
use Rattle.arith.specs.Choice.{at_least}
use Rattle.arith.specs.Lists.{list_of, every}
use Rattle.root.specs.Sqrt.{sqrt_of}
use Rattle.arith.specs.Sums.{sum_over}
use Rattle.kernel.specs.Matern.{square}

-- every element is at most b in size, so none is a NaN
unfoldable pub all_within : Float → List Float → Bool
all_within b xs = every (length xs) (λ i. le (abs (get_or xs i nan)) b)

-- column j of a table of d columns, by row
abbrev pub column_of : List Float → ℕ → ℕ → ℕ → Float
column_of x d j i = get_or x (i * d + j) nan

unfoldable pub mean_of : ℕ → (ℕ → Float) → Float
mean_of n t = div binary64 (sum_over n t) (of_int binary64 (pos n))

-- the squares of the distances from m, summed
abbrev pub squares_of : ℕ → (ℕ → Float) → Float → Float
squares_of n t m = sum_over n (λ i. square (sub binary64 (t i) m))

-- the variance of n numbers over k
unfoldable pub variance_of : ℕ → ℕ → (ℕ → Float) → Float
unfolding mean_of
variance_of n k t = div binary64 (squares_of n t (mean_of n t)) (of_int binary64 (pos k))

-- "y variance over n − 1 (1 if n = 1) .. floors 1e-10": the values are a table of one column
unfoldable pub value_deviation_of : List Float → Float
unfolding variance_of
value_deviation_of y =
    let n = length y in
    at_least (of_bits binary64 0x3ddb7cdfd9d7bdbb) (sqrt_of (cond (ltb 1 n) (variance_of n (n - 1) (column_of y 1 0)) (of_int binary64 (pos 1))))

-- the values less their mean, over their deviation
unfoldable pub standard_of : List Float → ℕ → Float
unfolding mean_of value_deviation_of
standard_of y i = div binary64 (sub binary64 (get_or y i nan) (mean_of (length y) (column_of y 1 0))) (value_deviation_of y)

abbrev pub standardized_of : List Float → List Float
standardized_of y = list_of (standard_of y) (length y)

-- "lengthscales over n, floors .. 0.01": one for each of the d columns of n rows
unfoldable pub lengthscale_of : List Float → ℕ → ℕ → ℕ → Float
unfolding variance_of
lengthscale_of x n d j = at_least (of_bits binary64 0x3f847ae147ae147b) (sqrt_of (variance_of n n (column_of x d j)))

abbrev pub lengthscales_of : List Float → ℕ → ℕ → List Float
lengthscales_of x n d = list_of (lengthscale_of x n d) d
