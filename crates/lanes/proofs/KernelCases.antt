-- The kernel vectors of eight points at small tables, and what is made of them, computed. Assumes nothing.
use Rattle.std.specs.Prelude.{Ok, Err}
use Rattle.refusal.specs.declared.Refusal.TheVariants.{OutOfDomain}
use Prim.Native.Nat.{ℕ}
use mathlib.Core.Path.{◌≡◌, refl}
use mathlib.Core.List.{List, [], ◌∷◌}
use lib.IntN.{pos}
use lib.ListN.{get_or}
use lib.Ieee.{Float, binary64, of_int, of_bits, add, sub, mul, div, neg, lt, is_nan, round}
use Rattle.arith.specs.Lists.{grown, list_of}
use Rattle.arith.specs.Rounding.{nearest_of, round_of}
use Rattle.arith.specs.Sums.{sum_over}
use Rattle.exponential.specs.Exp.{exp_of, horner_of, reduced_of, scaled_of, whole_of}
use Rattle.root.specs.Sqrt.{isqrt, root_of, sqrt_of}
use Rattle.kernel.specs.Matern.{matern52_of, scaled_root_of, decay_of}
use Rattle.lanes.specs.Rows.{eight_of}
use Rattle.factor.specs.Solve.{backward_of, solution_of}
use Rattle.factor.specs.Triangle.{less_of}
use Rattle.lanes.specs.Posteriors.{posterior_sums_of}
use Rattle.lanes.specs.Kernels.{kernel_rows_of, distance_term}

abbrev whole : ℕ → Float
whole n = of_int binary64 (pos n)

-- points of two columns: p, and 3 in every lane
abbrev points : List (List Float)
points = eight_of whole ∷ eight_of (λ p. whole 3) ∷ []

-- two rows, 10 20 and 30 40
abbrev table : List Float
table = whole 10 ∷ whole 20 ∷ whole 30 ∷ whole 40 ∷ []

abbrev scales : List Float
scales = whole 1 ∷ whole 2 ∷ []

abbrev Vectors : Type 0
Vectors =
    -- row 1 of lane 5 is the kernel of the point 5 3 and the row 30 40
    (matern52_of (whole 5 ∷ whole 3 ∷ []) (whole 30 ∷ whole 40 ∷ []) scales (whole 1) ≡ Ok (get_or (get_or rows 1 []) 5 (whole 0)))
    × (matern52_of (whole 0 ∷ whole 3 ∷ []) (whole 10 ∷ whole 20 ∷ []) scales (whole 1) ≡ Ok (get_or (get_or rows 0 []) 0 (whole 0)))
  where
    rows : List (List Float)
    rows = kernel_rows_of points table 2 2 scales

vectors : Vectors
unfolding grown matern52_of scaled_root_of decay_of sum_over exp_of horner_of reduced_of scaled_of whole_of nearest_of round_of sqrt_of root_of isqrt of_bits round add sub mul div neg lt is_nan of_int
vectors = (refl, refl)

-- column 0 of lane 5 and of row 1: 5 less 30, over 1, squared; column 1 of lane 5 and of row 0: 3 less 20, over 2, squared
terms : (distance_term points table 2 scales 1 5 0 ≡ whole 625) × (distance_term points table 2 scales 0 5 1 ≡ of_bits binary64 0x4052100000000000)
unfolding grown sub div mul round of_int of_bits
terms = (refl, refl)

-- one row without a column, whose kernel is 1, under the factor 2 and the weight 3: k · α is 3, and k · (K + σ² I)⁻¹ k is 1/4
abbrev Sums : Type 0
Sums =
    (posterior_sums_of [] [] 1 [] (whole 2 ∷ []) (whole 3 ∷ []) ≡ Ok (record { means = eight_of (λ p. whole 3); products = eight_of (λ p. of_bits binary64 0x3fd0000000000000) }))
    -- over 100 rows, over 20 columns, a row and a weight that are not there
    × (posterior_sums_of [] [] 101 [] [] (list_of whole 101) ≡ Err OutOfDomain)
    × (posterior_sums_of [] (list_of whole 21) 1 (list_of whole 21) [] (whole 3 ∷ []) ≡ Err OutOfDomain)
    × (posterior_sums_of points table 3 scales [] (list_of whole 3) ≡ Err OutOfDomain)
    × (posterior_sums_of points table 2 scales [] (whole 3 ∷ []) ≡ Err OutOfDomain)

sums : Sums
unfolding posterior_sums_of solution_of backward_of less_of grown matern52_of scaled_root_of decay_of sum_over exp_of horner_of reduced_of scaled_of whole_of nearest_of round_of sqrt_of root_of isqrt of_bits round add sub mul div neg lt is_nan of_int
sums = (refl, refl, refl, refl, refl)
