-- "Cholesky by columns: subtract products in index order, pivot > 0, sqrt, divide." (Rasmussen and Williams, appendix A.4: a matrix is L times its transpose.) Definitions only.
use Rattle.std.specs.Prelude.{ℕ, zero, suc, Bool, cond, List, eqb, leb, Float, Result, Ok, Err}
use Rattle.std.specs.Float.{binary64}
use Rattle.std.specs.Float.Ieee.{div, lt, of_bits}
use Rattle.refusal.specs.declared.Refusal.{Refusal}
use Rattle.refusal.specs.declared.Refusal.TheVariants.{OutOfDomain, Pivot}
use Rattle.arith.specs.Lists.{every, padded}
use Rattle.root.specs.Sqrt.{sqrt_of}
use Rattle.factor.specs.Triangle.{entry, rows_of, less_of}

-- what is left of the matrix's entry (i, j), by the factor's columns before j
abbrev pub rest_of : (ℕ → ℕ → Float) → (ℕ → ℕ → Float) → ℕ → ℕ → Float
rest_of a l i j = less_of j (l i) (l j) (a i j)

-- row i of column j: the root of the pivot on the diagonal, and below it what is left, divided by that root
abbrev pub element_of : (ℕ → ℕ → Float) → (ℕ → ℕ → Float) → ℕ → ℕ → Float
element_of a l i j = cond (eqb i j) (sqrt_of (rest_of a l j j)) (div binary64 (rest_of a l i j) (sqrt_of (rest_of a l j j)))

-- the factor's columns 0 to c - 1: row i, column k
unfoldable pub columns_of : (ℕ → ℕ → Float) → ℕ → ℕ → ℕ → Float
columns_of a zero i k = of_bits binary64 0
columns_of a (suc c) i k = cond (eqb k c) (element_of a (columns_of a c) i c) (columns_of a c i k)

-- the factor: row i, column k
abbrev pub factor_of : (ℕ → ℕ → Float) → ℕ → ℕ → Float
factor_of a i k = columns_of a (suc k) i k

-- every pivot is above 0
abbrev pub positive : (ℕ → ℕ → Float) → ℕ → Bool
positive a n = every n (λ j. lt (of_bits binary64 0) (rest_of a (columns_of a j) j j))

-- of the first n rows of a packed matrix: 11 over 100 rows, 13 where a pivot is not above 0
unfoldable pub cholesky_of : List Float → ℕ → Result (List Float) Refusal
cholesky_of a n = cond (leb n 100) (cond (positive (entry a) n) (Ok (padded 5050 (rows_of (factor_of (entry a)) n))) (Err Pivot)) (Err OutOfDomain)
