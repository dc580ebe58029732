-- The definitions at small points, computed; the words are what the unchanged Rust gives, with document 01's exp and sqrt. Assumes nothing.
use Rattle.std.specs.Prelude.{Result, Ok, Err}
use Rattle.refusal.specs.declared.Refusal.{Refusal}
use Rattle.refusal.specs.declared.Refusal.TheVariants.{OutOfDomain}
use Rattle.arith.specs.Outcome.{made, and_then}
use Rattle.gp_model.specs.declared.Model.{Model}
use Rattle.prediction.specs.declared.Posterior.{Posterior}
use Prim.Native.Nat.{ℕ}
use mathlib.Core.Bool.{true}
use mathlib.Core.Path.{◌≡◌, refl}
use mathlib.Core.List.{[], ◌∷◌}
use lib.ListN.{replicate}
use lib.Ieee.{binary64, of_bits, to_bits, round, add, sub, mul, div, neg, lt, le, is_nan, of_int}
use Rattle.exponential.specs.Exp.{exp_of, horner_of, reduced_of, scaled_of, whole_of}
use Rattle.arith.specs.Lists.{every, grown}
use Rattle.arith.specs.Rounding.{nearest_of, round_of}
use Rattle.root.specs.Sqrt.{isqrt, root_of, sqrt_of}
use Rattle.arith.specs.Sums.{sum_over}
use Rattle.factor.specs.Cholesky.{columns_of, cholesky_of}
use Rattle.factor.specs.Solve.{backward_of, solve_of, solution_of}
use Rattle.factor.specs.Triangle.{rows_of, less_of}
use Rattle.kernel.specs.Matern.{scaled_root_of, decay_of, matern52_of}
use Rattle.gp_model.specs.Fit.{fit_domain, fitted_of, fit_of}
use Rattle.gp_model.specs.Kernels.{covariance_of, similarity_of}
use Rattle.gp_model.specs.Statistics.{all_within, lengthscale_of, mean_of, standard_of, value_deviation_of, variance_of}
use Rattle.gp_model.proofs.Cases.{bare, float, one, two, wide, word}
use Rattle.prediction.specs.Predict.{counts_fit, posterior_mean_of, posterior_std_of, predict_of}

-- ---- predictions at 1, by the models of gp_model/proofs/Cases
abbrev at_one : Result Model Refusal → Result Posterior Refusal
at_one fit = and_then fit (λ m. predict_of m (float 1 ∷ []))

abbrev Predicted : Type 0
Predicted =
    (made (λ p. to_bits binary64 p.mean) (at_one two) ≡ Ok 0x3fd4f138edc7df9a)
    × (made (λ p. to_bits binary64 p.std) (at_one two) ≡ Ok 0x3fe6929eda77b03f)
    × (made (λ p. p.std) (at_one one) ≡ Ok (float 1))
    -- without noise it is a row's value, with no deviation
    × (made (λ p. to_bits binary64 p.mean) (at_one bare) ≡ Ok 0x3fe6a09e667f3bcd)
    × (made (λ p. p.std) (at_one bare) ≡ Ok (float 0))
    -- a point of two columns
    × (and_then two (λ m. predict_of m (float 1 ∷ float 1 ∷ [])) ≡ Err OutOfDomain)
    -- the point 0 1 by the model of two columns, whose lengthscales are a half and 2
    × (made (λ p. to_bits binary64 p.mean) (and_then wide (λ m. predict_of m (float 0 ∷ float 1 ∷ []))) ≡ Ok 0xbfd1a39c3c280094)
    × (made (λ p. to_bits binary64 p.std) (and_then wide (λ m. predict_of m (float 0 ∷ float 1 ∷ []))) ≡ Ok 0x3fe9e8b0ad8fa07c)

predicted : Predicted
unfolding predict_of counts_fit posterior_mean_of posterior_std_of fit_of fit_domain fitted_of all_within every covariance_of similarity_of lengthscale_of variance_of mean_of value_deviation_of standard_of cholesky_of columns_of rows_of less_of grown solve_of solution_of backward_of matern52_of scaled_root_of decay_of sum_over exp_of horner_of reduced_of scaled_of whole_of nearest_of round_of sqrt_of root_of isqrt of_bits to_bits round add sub mul div neg lt le is_nan of_int
predicted = (refl, refl, refl, refl, refl, refl, refl, refl)

-- ---- the domain; a model of these counts, without parts
abbrev counted : ℕ → ℕ → Model
counted n d = record { x_train = []; lengthscales = []; cholesky = []; alpha = []; f_best = float 0; n = n; d = d }

abbrev at_word : ℕ → Result Posterior Refusal
at_word x = predict_of (counted 1 1) (word x ∷ [])

abbrev Domain : Type 0
Domain =
    -- 1e32 is taken; the next float, its opposite and a NaN are not
    (made (λ p. true) (at_word 0x4693b8b5b5056e17) ≡ Ok true)
    × (at_word 0x4693b8b5b5056e18 ≡ Err OutOfDomain)
    × (at_word 0xc693b8b5b5056e18 ≡ Err OutOfDomain)
    × (at_word 0x7ff8000000000000 ≡ Err OutOfDomain)
    -- no row, no column, 101 rows and 21 columns
    × (predict_of (counted 0 1) (float 0 ∷ []) ≡ Err OutOfDomain)
    × (predict_of (counted 1 0) [] ≡ Err OutOfDomain)
    × (predict_of (counted 101 1) (float 0 ∷ []) ≡ Err OutOfDomain)
    × (predict_of (counted 1 21) (replicate 21 (float 0)) ≡ Err OutOfDomain)
    × (counts_fit 1 1 ≡ true)
    × (counts_fit 100 20 ≡ true)

domain : Domain
unfolding predict_of counts_fit all_within every of_bits round lt le of_int
domain = (refl, refl, refl, refl, refl, refl, refl, refl, refl, refl)
