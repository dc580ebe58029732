-- The definitions at single points, computed; the words are what the unchanged Rust gives, with document 01's exp and sqrt. Assumes nothing.
use Prim.Native.Nat.{ℕ}
use mathlib.Core.Path.{◌≡◌, refl}
use mathlib.Core.Bool.{false}
use mathlib.Core.List.{[], ◌∷◌}
use lib.IntN.{pos}
use lib.Ieee.{Float, binary64, of_bits, to_bits, round, add, sub, mul, div, neg, lt, is_nan, of_int}
use Rattle.exponential.specs.Exp.{exp_of, horner_of, reduced_of, scaled_of, whole_of}
use Rattle.refusal.specs.declared.Refusal.{Refusal}
use Rattle.refusal.specs.declared.Refusal.TheVariants.{OutOfDomain}
use Rattle.std.specs.Prelude.{Result, Ok, Err}
use Rattle.arith.specs.Rounding.{nearest_of, round_of}
use Rattle.root.specs.Sqrt.{isqrt, root_of, sqrt_of}
use Rattle.arith.specs.Sums.{sum_over}
use Rattle.kernel.specs.Matern.{square, fits, squared_distance_of, sqrt5, polynomial_of, scaled_root_of, decay_of, at_of, matern52_of}

abbrev float : ℕ → Float
float n = of_int binary64 (pos n)

-- from 0 to n on one column of that lengthscale, at signal variance 1
abbrev at : ℕ → Float → Result Float Refusal
at n l = matern52_of (float 0 ∷ []) (float n ∷ []) (l ∷ []) (float 1)

abbrev Points : Type 0
Points =
    (at 0 (float 1) ≡ Ok (of_bits binary64 0x3ff0000000000000))
    × (at 1 (float 1) ≡ Ok (of_bits binary64 0x3fe0c40ff2efde8c))
    × (at 2 (float 1) ≡ Ok (of_bits binary64 0x3fc1be677c8649e9))
    -- the lengthscale divides
    × (at 2 (of_bits binary64 0x3fe0000000000000) ≡ Ok (of_bits binary64 0x3f738e4cb6f5607b))

points : Points
unfolding matern52_of scaled_root_of decay_of sum_over exp_of horner_of reduced_of scaled_of whole_of nearest_of round_of sqrt_of root_of isqrt of_bits to_bits round add sub mul div neg lt is_nan of_int
points = (refl, refl, refl, refl)

-- two columns with their lengthscales, at signal variance 2, and lists of unequal length
abbrev Columns : Type 0
Columns =
    (matern52_of (float 0 ∷ float 0 ∷ []) (float 1 ∷ float 2 ∷ []) (float 1 ∷ float 2 ∷ []) (float 2) ≡ Ok (of_bits binary64 0x3fe44d7176ef4776))
    × (matern52_of (float 0 ∷ []) (float 1 ∷ []) [] (float 1) ≡ Err OutOfDomain)
    × (matern52_of (float 0 ∷ []) [] (float 1 ∷ []) (float 1) ≡ Err OutOfDomain)

columns : Columns
unfolding matern52_of scaled_root_of decay_of sum_over exp_of horner_of reduced_of scaled_of whole_of nearest_of round_of sqrt_of root_of isqrt of_bits to_bits round add sub mul div neg lt is_nan of_int
columns = (refl, refl, refl)

-- the differences 3 and 4 under the lengthscales 1 and 2 have the squares 9 and 4; document 01's constant, by its decimals; 1 + 3 + 5/3 × 3
abbrev Parts : Type 0
Parts =
    (squared_distance_of (float 1 ∷ float 2 ∷ []) (float 4 ∷ float 6 ∷ []) (float 1 ∷ float 2 ∷ []) ≡ float 13)
    × (fits (float 1 ∷ []) (float 1 ∷ []) [] ≡ false)
    × (square (float 3) ≡ float 9)
    × (sqrt5 ≡ round binary64 false 2236213562373095 1000000000000000)
    × (scaled_root_of (float 4) ≡ mul binary64 (float 2) sqrt5)
    × (polynomial_of (float 3) (float 3) ≡ float 9)
    × (at_of (float 1) (float 1) ≡ Ok (of_bits binary64 0x3fe0c40ff2efde8c))

parts : Parts
unfolding scaled_root_of decay_of sum_over exp_of horner_of reduced_of scaled_of whole_of nearest_of round_of sqrt_of root_of isqrt of_bits to_bits round add sub mul div neg lt is_nan of_int
parts = (refl, refl, refl, refl, refl, refl, refl)
