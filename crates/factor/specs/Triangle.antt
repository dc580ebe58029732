-- A lower triangle, packed row after row: "The lower triangle is packed, 5,050 floats." Definitions only.
use Rattle.std.specs.Prelude.{ℕ, zero, suc, ◌+◌, ◌*◌, ◌/◌, List, [], ◌++◌, get_or, Float}
use Rattle.std.specs.Float.{nan, binary64}
use Rattle.std.specs.Float.Ieee.{sub, mul}
use Rattle.arith.specs.Lists.{list_of}

-- where row i, column k lies
abbrev pub at : ℕ → ℕ → ℕ
at i k = i * (i + 1) / 2 + k

abbrev pub entry : List Float → ℕ → ℕ → Float
entry l i k = get_or l (at i k) nan

-- the rows 0 to n - 1 of a triangle, one after another
unfoldable pub rows_of : (ℕ → ℕ → Float) → ℕ → List Float
rows_of t zero = []
rows_of t (suc n) = rows_of t n ++ list_of (t n) (suc n)

-- s less the products x 0 × y 0 to x (n - 1) × y (n - 1), one by one by rising index
unfoldable pub less_of : ℕ → (ℕ → Float) → (ℕ → Float) → Float → Float
less_of zero x y s = s
less_of (suc n) x y s = sub binary64 (less_of n x y s) (mul binary64 (x n) (y n))
