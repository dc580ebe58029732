-- "Solve is forward then backward: each subtracts its products one by one by rising index, then divides." (Rasmussen and Williams, algorithm 2.1: the transpose of L, under L, under the right-hand side.) Definitions only.
use Rattle.std.specs.Prelude.{ℕ, zero, suc, ◌+◌, ◌-◌, cond, List, [], ◌∷◌, leb, get_or, Float, Result, Ok, Err}
use Rattle.std.specs.Float.{nan, binary64}
use Rattle.std.specs.Float.Ieee.{div}
use Rattle.refusal.specs.declared.Refusal.{Refusal}
use Rattle.refusal.specs.declared.Refusal.TheVariants.{OutOfDomain}
use Rattle.arith.specs.Lists.{grown, padded}
use Rattle.factor.specs.Triangle.{entry, less_of}

-- z with L z = b: each from those before it
abbrev pub forward_at : List Float → List Float → List Float → ℕ → Float
forward_at l b z i = div binary64 (less_of i (entry l i) (λ k. get_or z k nan) (get_or b i nan)) (entry l i i)

abbrev pub forward_of : List Float → List Float → ℕ → List Float
forward_of l b n = grown (forward_at l b) n

-- unknown i of x with Lᵀ x = z, where xs are the m unknowns after it
abbrev pub backward_at : List Float → List Float → ℕ → ℕ → List Float → Float
backward_at l z i m xs = div binary64 (less_of m (λ k. entry l (i + 1 + k) i) (λ k. get_or xs k nan) (get_or z i nan)) (entry l i i)

-- the last m of the n unknowns
unfoldable pub backward_of : List Float → List Float → ℕ → ℕ → List Float
backward_of l z n zero = []
backward_of l z n (suc m) = backward_at l z (n - suc m) m (backward_of l z n m) ∷ backward_of l z n m

-- x with L Lᵀ x = b, of the first n rows, in an array of a hundred; over 100 rows none is found
unfoldable pub solution_of : List Float → List Float → ℕ → List Float
solution_of l b n = padded 100 (cond (leb n 100) (backward_of l (forward_of l b n) n n) [])

-- the same: 11 over 100 rows
unfoldable pub solve_of : List Float → List Float → ℕ → Result (List Float) Refusal
solve_of l b n = cond (leb n 100) (Ok (solution_of l b n)) (Err OutOfDomain)
