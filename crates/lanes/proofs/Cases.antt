-- Sums and a solution of eight lanes at small lists, computed. Assumes nothing.
use Prim.Native.Nat.{ℕ, ◌+◌, ◌*◌}
use mathlib.Core.Path.{◌≡◌, refl}
use mathlib.Core.List.{List, [], ◌∷◌}
use lib.IntN.{pos}
use lib.ListN.{get_or, take}
use lib.Ieee.{Float, binary64, of_int, of_bits, add, mul, sub, div, round}
use Rattle.arith.specs.Lists.{grown}
use Rattle.arith.specs.Sums.{sum_over}
use Rattle.factor.specs.Solve.{backward_of, solution_of}
use Rattle.factor.specs.Triangle.{less_of}
use Rattle.lanes.specs.Rows.{eight_of, lane_of, zero_row}
use Rattle.lanes.specs.Solving.{solutions_of}
use Rattle.lanes.specs.Sums.{dots_of, dots_each_of}

abbrev whole : ℕ → Float
whole n = of_int binary64 (pos n)

-- lane p has p + 1 and then 1
abbrev rising : List Float
rising = whole 1 ∷ whole 2 ∷ whole 3 ∷ whole 4 ∷ whole 5 ∷ whole 6 ∷ whole 7 ∷ whole 8 ∷ []

abbrev ones : List Float
ones = eight_of (λ p. whole 1)

abbrev Dots : Type 0
Dots =
    (lane_of (rising ∷ ones ∷ []) 2 4 ≡ whole 5 ∷ whole 1 ∷ [])
    -- lane by lane, not over the lanes
    × (dots_of (rising ∷ ones ∷ []) (ones ∷ rising ∷ []) 2 ≡ whole 2 ∷ whole 4 ∷ whole 6 ∷ whole 8 ∷ whole 10 ∷ whole 12 ∷ whole 14 ∷ whole 16 ∷ [])
    × (dots_each_of (rising ∷ ones ∷ []) (whole 3 ∷ whole 1 ∷ []) 2 ≡ whole 4 ∷ whole 7 ∷ whole 10 ∷ whole 13 ∷ whole 16 ∷ whole 19 ∷ whole 22 ∷ whole 25 ∷ [])

dots : Dots
unfolding sum_over grown add mul of_int of_bits round
dots = (refl, refl, refl)

-- the matrix 4 2, 2 5 by its factor 2, 1 2: in lane p the right-hand side 6 7 times p + 1 has the solution p + 1, p + 1; no row past the two
abbrev Solved : Type 0
Solved =
    (take 2 (solutions_of (whole 2 ∷ whole 1 ∷ whole 2 ∷ []) (eight_of (λ p. whole (6 * (p + 1))) ∷ eight_of (λ p. whole (7 * (p + 1))) ∷ []) 2) ≡ rising ∷ rising ∷ [])
    × (get_or (solutions_of (whole 2 ∷ []) (rising ∷ []) 1) 1 [] ≡ zero_row)

solved : Solved
unfolding solution_of backward_of less_of grown of_bits of_int round sub mul div
solved = (refl, refl)
