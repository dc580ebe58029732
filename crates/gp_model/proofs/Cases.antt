-- The definitions at small points, computed; the words are what the unchanged Rust gives, with document 01's exp and sqrt. Assumes nothing.
use Rattle.std.specs.Prelude.{Result, Ok, Err}
use Rattle.refusal.specs.declared.Refusal.{Refusal}
use Rattle.refusal.specs.declared.Refusal.TheVariants.{OutOfDomain, NoRows, Pivot}
use Rattle.arith.specs.Outcome.{made}
use Prim.Native.Nat.{ℕ}
use mathlib.Core.Bool.{true, false}
use mathlib.Core.Path.{◌≡◌, refl}
use mathlib.Core.List.{[], ◌∷◌}
use lib.IntN.{pos}
use lib.ListN.{take, replicate}
use lib.Ieee.{Float, binary64, of_bits, to_bits, round, add, sub, mul, div, neg, lt, le, is_nan, of_int}
use Rattle.arith.specs.Choice.{least_of_first}
use Rattle.exponential.specs.Exp.{exp_of, horner_of, reduced_of, scaled_of, whole_of}
use Rattle.arith.specs.Lists.{every, grown}
use Rattle.arith.specs.Rounding.{nearest_of, round_of}
use Rattle.root.specs.Sqrt.{isqrt, root_of, sqrt_of}
use Rattle.arith.specs.Sums.{sum_over}
use Rattle.factor.specs.Cholesky.{columns_of, cholesky_of}
use Rattle.factor.specs.Solve.{backward_of, solve_of, solution_of}
use Rattle.factor.specs.Triangle.{rows_of, less_of}
use Rattle.kernel.specs.Matern.{scaled_root_of, decay_of, matern52_of}
use Rattle.gp_model.specs.declared.Model.{Model}
use Rattle.gp_model.specs.Fit.{fit_domain, fitted_of, fit_of}
use Rattle.gp_model.specs.Kernels.{covariance_of, similarity_of}
use Rattle.gp_model.specs.Statistics.{all_within, lengthscale_of, mean_of, standard_of, value_deviation_of, variance_of}

abbrev pub float : ℕ → Float
float n = of_int binary64 (pos n)

abbrev pub word : ℕ → Float
word w = of_bits binary64 w

abbrev pub half : Float
half = word 0x3fe0000000000000

-- ---- the row 0.5 with the value 3, and the rows 0 and 1 with the values 1 and 3; the noise is 1
abbrev pub one : Result Model Refusal
one = fit_of (half ∷ []) (float 3 ∷ []) 1 (float 1)

abbrev pub two : Result Model Refusal
two = fit_of (float 0 ∷ float 1 ∷ []) (float 1 ∷ float 3 ∷ []) 1 (float 1)

-- the same rows and values without noise
abbrev pub bare : Result Model Refusal
bare = fit_of (float 0 ∷ float 1 ∷ []) (float 1 ∷ float 3 ∷ []) 1 (float 0)

abbrev Fitted : Type 0
Fitted =
    (made (λ m. to_bits binary64 m.f_best) one ≡ Ok 0)
    -- the floor 0.01
    × (made (λ m. take 1 m.lengthscales) one ≡ Ok (word 0x3f847ae147ae147b ∷ []))
    × (made (λ m. take 1 m.alpha) one ≡ Ok (float 0 ∷ []))
    × (made (λ m. take 1 m.cholesky) one ≡ Ok (word 0x3ff6a09e667f3bcd ∷ []))
    × (made (λ m. to_bits binary64 m.f_best) two ≡ Ok 0xbfe6a09e667f3bcc)
    × (made (λ m. take 1 m.lengthscales) two ≡ Ok (half ∷ []))
    × (made (λ m. take 2 m.alpha) two ≡ Ok (word 0xbfd85003df3697fe ∷ word 0x3fd85003df369800 ∷ []))
    × (made (λ m. take 3 m.cholesky) two ≡ Ok (word 0x3ff6a09e667f3bcd ∷ word 0x3fb917edfffebf91 ∷ word 0x3ff692b0170012fa ∷ []))
    -- the rows are in the order in which they were given
    × (made (λ m. take 2 m.x_train) two ≡ Ok (float 0 ∷ float 1 ∷ []))
    -- without noise the diagonal of the kernel matrix is 1, so the factor and the weights are others
    × (made (λ m. take 3 m.cholesky) bare ≡ Ok (float 1 ∷ word 0x3fc1be677c8649e9 ∷ word 0x3fefb0e86aaa839d ∷ []))
    × (made (λ m. take 2 m.alpha) bare ≡ Ok (word 0xbfea44d646eeedf4 ∷ word 0x3fea44d646eeedf5 ∷ []))

fitted : Fitted
unfolding fit_of fit_domain fitted_of all_within every covariance_of similarity_of lengthscale_of variance_of mean_of value_deviation_of standard_of least_of_first cholesky_of columns_of rows_of less_of grown solve_of solution_of backward_of matern52_of scaled_root_of decay_of sum_over exp_of horner_of reduced_of scaled_of whole_of nearest_of round_of sqrt_of root_of isqrt of_bits to_bits round add sub mul div neg lt le is_nan of_int
fitted = (refl, refl, refl, refl, refl, refl, refl, refl, refl, refl, refl)

-- ---- two columns: the rows 0 0 and 1 4, whose lengthscales are a half and 2; and the rows of two with equal values
abbrev pub wide : Result Model Refusal
wide = fit_of (float 0 ∷ float 0 ∷ float 1 ∷ float 4 ∷ []) (float 1 ∷ float 3 ∷ []) 2 (float 1)

abbrev flat : Result Model Refusal
flat = fit_of (float 0 ∷ float 1 ∷ []) (float 1 ∷ float 1 ∷ []) 1 (float 1)

abbrev Wide : Type 0
Wide =
    -- each array, and a 0 past its count
    (made (λ m. take 3 m.lengthscales) wide ≡ Ok (half ∷ float 2 ∷ float 0 ∷ []))
    × (made (λ m. take 4 m.cholesky) wide ≡ Ok (word 0x3ff6a09e667f3bcd ∷ word 0x3f9aca5fe86f5be4 ∷ word 0x3ff69fa09f3a3f5b ∷ float 0 ∷ []))
    × (made (λ m. take 3 m.alpha) wide ≡ Ok (word 0xbfd70dccfa67ef48 ∷ word 0x3fd70dccfa67ef49 ∷ float 0 ∷ []))
    × (made (λ m. take 5 m.x_train) wide ≡ Ok (float 0 ∷ float 0 ∷ float 1 ∷ float 4 ∷ float 0 ∷ []))
    × (made (λ m. m.n ∷ m.d ∷ []) wide ≡ Ok (2 ∷ 2 ∷ []))
    × (made (λ m. m.n ∷ m.d ∷ []) one ≡ Ok (1 ∷ 1 ∷ []))
    × (made (λ m. m.n ∷ m.d ∷ []) two ≡ Ok (2 ∷ 1 ∷ []))
    -- the floor 1e-10 of a deviation of 0: the values are 0, and so are the weights
    × (value_deviation_of (float 1 ∷ float 1 ∷ []) ≡ word 0x3ddb7cdfd9d7bdbb)
    × (made (λ m. take 2 m.alpha) flat ≡ Ok (float 0 ∷ float 0 ∷ []))
    × (made (λ m. m.f_best) flat ≡ Ok (float 0))

wide_fit : Wide
unfolding fit_of fit_domain fitted_of all_within every covariance_of similarity_of lengthscale_of variance_of mean_of value_deviation_of standard_of least_of_first cholesky_of columns_of rows_of less_of grown solve_of solution_of backward_of matern52_of scaled_root_of decay_of sum_over exp_of horner_of reduced_of scaled_of whole_of nearest_of round_of sqrt_of root_of isqrt of_bits to_bits round add sub mul div neg lt le is_nan of_int
wide_fit = (refl, refl, refl, refl, refl, refl, refl, refl, refl, refl)

-- the domain: rows, columns, counts that fit each other, and the limits 1e32 and 2^52, which are taken
abbrev Domain : Type 0
Domain =
    (fit_domain (replicate 100 (float 0)) (replicate 100 (float 0)) 1 ≡ true)
    × (fit_domain (replicate 101 (float 0)) (replicate 101 (float 0)) 1 ≡ false)
    × (fit_domain (replicate 20 (float 0)) (float 0 ∷ []) 20 ≡ true)
    × (fit_domain (replicate 21 (float 0)) (float 0 ∷ []) 21 ≡ false)
    × (fit_domain [] (float 0 ∷ []) 0 ≡ false)
    × (fit_domain (float 0 ∷ float 0 ∷ []) (float 0 ∷ []) 1 ≡ false)
    × (fit_domain (float 0 ∷ []) (float 0 ∷ float 0 ∷ []) 1 ≡ false)
    × (fit_domain (word 0x4693b8b5b5056e17 ∷ []) (float 0 ∷ []) 1 ≡ true)
    × (fit_domain (word 0xc693b8b5b5056e18 ∷ []) (float 0 ∷ []) 1 ≡ false)
    × (fit_domain (word 0x7ff8000000000000 ∷ []) (float 0 ∷ []) 1 ≡ false)
    × (fit_domain (float 0 ∷ []) (word 0xc330000000000000 ∷ []) 1 ≡ true)
    × (fit_domain (float 0 ∷ []) (word 0x4330000000000001 ∷ []) 1 ≡ false)
    -- the last of two
    × (fit_domain (float 0 ∷ word 0x4693b8b5b5056e18 ∷ []) (float 0 ∷ float 0 ∷ []) 1 ≡ false)
    × (fit_domain (float 0 ∷ float 0 ∷ []) (float 0 ∷ word 0x4330000000000001 ∷ []) 1 ≡ false)

domain : Domain
unfolding fit_domain all_within every of_bits round lt le of_int
domain = (refl, refl, refl, refl, refl, refl, refl, refl, refl, refl, refl, refl, refl, refl)

abbrev Refused : Type 0
Refused =
    (fit_of [] [] 1 (float 1) ≡ Err NoRows)
    -- 11 before 12
    × (fit_of [] [] 21 (float 1) ≡ Err OutOfDomain)
    -- a row twice, without noise
    × (fit_of (float 1 ∷ float 1 ∷ []) (float 1 ∷ float 3 ∷ []) 1 (float 0) ≡ Err Pivot)

refused : Refused
unfolding fit_of fit_domain fitted_of all_within every covariance_of similarity_of lengthscale_of variance_of mean_of cholesky_of columns_of rows_of less_of grown matern52_of scaled_root_of decay_of sum_over exp_of horner_of reduced_of scaled_of whole_of nearest_of round_of sqrt_of root_of isqrt of_bits round add sub mul div neg lt le is_nan of_int
refused = (refl, refl, refl)
