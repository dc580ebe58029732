-- The definitions at a matrix of two rows, 4 2 and 2 5, computed: it is L times its transpose, where L has the rows 2 and 1 2. Assumes nothing.
use Rattle.std.specs.Prelude.{Ok, Err}
use Rattle.refusal.specs.declared.Refusal.TheVariants.{OutOfDomain, Pivot}
use Rattle.arith.specs.Outcome.{made}
use Prim.Native.Nat.{ℕ, ◌+◌, ◌*◌}
use mathlib.Core.Path.{◌≡◌, refl}
use mathlib.Core.Bool.{true, false}
use mathlib.Core.List.{List, [], ◌∷◌}
use lib.IntN.{pos}
use lib.ListN.{take}
use lib.Ieee.{Float, binary64, of_bits, of_int, round, sub, mul, div, lt}
use Rattle.arith.specs.Lists.{grown, every}
use Rattle.root.specs.Sqrt.{isqrt, root_of, sqrt_of}
use Rattle.factor.specs.Triangle.{at, entry, rows_of, less_of}
use Rattle.factor.specs.Cholesky.{rest_of, element_of, columns_of, factor_of, positive, cholesky_of}
use Rattle.factor.specs.Solve.{forward_at, forward_of, backward_at, backward_of, solution_of, solve_of}

abbrev float : ℕ → Float
float n = of_int binary64 (pos n)

abbrev matrix : List Float
matrix = float 4 ∷ float 2 ∷ float 5 ∷ []

abbrev factor : List Float
factor = float 2 ∷ float 1 ∷ float 2 ∷ []

abbrev Factored : Type 0
Factored =
    -- and a 0 past it
    (made (take 4) (cholesky_of matrix 2) ≡ Ok (float 2 ∷ float 1 ∷ float 2 ∷ float 0 ∷ []))
    -- a pivot that is 0
    × (cholesky_of (float 0 ∷ []) 1 ≡ Err Pivot)

factored : Factored
unfolding cholesky_of columns_of rows_of less_of grown every sqrt_of root_of isqrt of_bits of_int round sub mul div lt
factored = (refl, refl)

-- the right-hand side 6 7 is the matrix times 1 1; past the two unknowns there is a 0
solved : made (take 3) (solve_of factor (float 6 ∷ float 7 ∷ []) 2) ≡ Ok (float 1 ∷ float 1 ∷ float 0 ∷ [])
unfolding solve_of solution_of backward_of less_of grown of_bits of_int round sub mul div
solved = refl

-- its parts: the places of a packed triangle, the last of a hundred rows being place 5049; what is left of 5 by the column before, 4, and its root; both solves
abbrev Parts : Type 0
Parts =
    (at 2 1 ≡ 4)
    × (at 99 99 ≡ 5049)
    × (rows_of (λ i k. float (10 * i + k)) 3 ≡ float 0 ∷ float 10 ∷ float 11 ∷ float 20 ∷ float 21 ∷ float 22 ∷ [])
    × (entry matrix 1 0 ≡ float 2)
    × (rest_of (entry matrix) (columns_of (entry matrix) 1) 1 1 ≡ float 4)
    × (element_of (entry matrix) (columns_of (entry matrix) 0) 1 0 ≡ float 1)
    × (factor_of (entry matrix) 1 1 ≡ float 2)
    × (positive (entry matrix) 2 ≡ true)
    × (positive (entry (float 4 ∷ float 2 ∷ float 1 ∷ [])) 2 ≡ false)
    × (forward_of factor (float 6 ∷ float 7 ∷ []) 2 ≡ float 3 ∷ float 2 ∷ [])
    × (forward_at factor (float 6 ∷ float 7 ∷ []) (float 3 ∷ []) 1 ≡ float 2)
    × (backward_at factor (float 3 ∷ float 2 ∷ []) 0 1 (float 1 ∷ []) ≡ float 1)
    × (backward_of factor (float 3 ∷ float 2 ∷ []) 2 1 ≡ float 1 ∷ [])

parts : Parts
unfolding columns_of rows_of less_of backward_of grown every sqrt_of root_of isqrt of_bits of_int round sub mul div lt
parts = (refl, refl, refl, refl, refl, refl, refl, refl, refl, refl, refl, refl, refl)

-- products are subtracted one by one by rising index: 2^53 + 2 less 1 is a tie, which goes to 2^53, and 1 less is 2^53 - 1; both at once would leave 2^53
one_by_one : less_of 2 (λ k. float 1) (λ k. float 1) (float 9007199254740994) ≡ float 9007199254740991
unfolding less_of of_int round sub mul
one_by_one = refl

-- over a hundred rows
abbrev Over : Type 0
Over =
    (cholesky_of [] 101 ≡ Err OutOfDomain)
    × (solve_of [] [] 101 ≡ Err OutOfDomain)

over : Over
unfolding cholesky_of solve_of
over = (refl, refl)
