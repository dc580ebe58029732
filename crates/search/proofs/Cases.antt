-- The definitions at small points, computed; the words are what the unchanged Rust gives, with document 01's exp and sqrt. Assumes nothing.
use Prim.Native.Nat.{ℕ}
use Rattle.std.specs.Prelude.{Result, Ok, Err, Float}
use Rattle.refusal.specs.declared.Refusal.{Refusal}
use Rattle.refusal.specs.declared.Refusal.TheVariants.{OutOfDomain}
use Rattle.arith.specs.Outcome.{made, and_then}
use Rattle.gp_model.specs.declared.Model.{Model}
use Rattle.search.specs.declared.Candidate.{Candidate}
use mathlib.Core.Bool.{true, false}
use mathlib.Core.Path.{◌≡◌, refl}
use mathlib.Core.List.{[], ◌∷◌}
use lib.ListN.{take, get_or}
use lib.Ieee.{binary64, of_bits, to_bits, round, add, sub, mul, div, neg, lt, le, is_nan, of_int}
use Rattle.lanes.specs.Rows.{zero_row}
use Rattle.search.specs.declared.Search.{Search}
use Rattle.search.specs.Eights.{starts_of, column_of, points_of, kept_each_of}
use Rattle.acquisition.specs.Improvement.{expected_improvement_of}
use Rattle.acquisition.specs.Normal.{norm_cdf_of, norm_pdf_of, polynomial_of, upper_of}
use Rattle.arith.specs.Choice.{least_of_first}
use Rattle.exponential.specs.Exp.{exp_of, horner_of, reduced_of, scaled_of, whole_of}
use Rattle.arith.specs.Lists.{every, grown}
use Rattle.arith.specs.Rounding.{nearest_of, round_of}
use Rattle.root.specs.Sqrt.{isqrt, root_of, sqrt_of}
use Rattle.arith.specs.Sums.{sum_over}
use Rattle.factor.specs.Cholesky.{columns_of, cholesky_of}
use Rattle.factor.specs.Solve.{backward_of, solve_of, solution_of}
use Rattle.factor.specs.Triangle.{rows_of, less_of}
use Rattle.kernel.specs.Matern.{scaled_root_of, decay_of, matern52_of}
use Rattle.rng_util.specs.Draws.{unit_of}
use Rattle.rng_util.specs.Generator.{moved_of, next_of, xor_left, xor_right}
use Rattle.gp_model.specs.Fit.{fit_domain, fitted_of, fit_of}
use Rattle.gp_model.specs.Kernels.{covariance_of, similarity_of}
use Rattle.gp_model.specs.Statistics.{all_within, lengthscale_of, mean_of, standard_of, value_deviation_of, variance_of}
use Rattle.gp_model.proofs.Cases.{float, half, one, two, wide, word}
use Rattle.prediction.specs.Predict.{counts_fit, posterior_mean_of, posterior_std_of}
use Rattle.search.specs.Search.{advance_of, draw_point_of, optimum_of, optimize_acquisition_of, parts_of, score_of, search_domain, point_of, start_of}

-- ---- searches
abbrev searched : Result Model Refusal → ℕ → ℕ → Result Candidate Refusal
searched fit candidates w = and_then fit (λ m. optimize_acquisition_of m 1 candidates w)

abbrev score_at : Result Model Refusal → Float → Result ℕ Refusal
score_at fit x = made (λ m. to_bits binary64 (score_of m (x ∷ []))) fit

abbrev Found : Type 0
Found =
    -- the second of three candidates
    (made (λ c. take 2 c.x) (searched two 3 0x9e3779b97f4a7c15) ≡ Ok (word 0x3fd93c3bae409b98 ∷ float 0 ∷ []))
    × (made (λ c. c.next) (searched two 3 0x9e3779b97f4a7c15) ≡ Ok 0x7b07ce91e5906136)
    -- a tie: the first of two
    × (made (λ c. take 1 c.x) (searched one 2 0x9e3779b97f4a7c13) ≡ Ok (word 0x3feb836ef5f11ff0 ∷ []))
    × (score_at one (word 0x3feb836ef5f11ff0) ≡ Ok 0x3fd9884533d43651)
    × (score_at one (word 0x3f93c5a2b4a9b840) ≡ Ok 0x3fd9884533d43651)
    -- by the deviation there, and the best value, which is below 0
    × (score_at two (word 0x3fd93c3bae409b98) ≡ Ok 0x3fbdc6c2cda70d44)
    -- no candidate
    × (made (λ c. take 2 c.x) (searched two 0 0x9e3779b97f4a7c15) ≡ Ok (half ∷ float 0 ∷ []))
    -- a zero word, and two columns for a model of one
    × (searched two 3 0 ≡ Err OutOfDomain)
    × (and_then two (λ m. optimize_acquisition_of m 2 3 0x9e3779b97f4a7c15) ≡ Err OutOfDomain)
    -- the point drawn for a model of two columns has two coordinates, and nothing past them
    × (made (λ c. take 3 c.x) (and_then wide (λ m. optimize_acquisition_of m 2 1 1)) ≡ Ok (unit_of 0x40822041 ∷ unit_of 0x100041060c011441 ∷ float 0 ∷ []))
    × (made (λ c. c.next) (and_then wide (λ m. optimize_acquisition_of m 2 1 1)) ≡ Ok 0x100041060c011441)

found : Found
unfolding optimize_acquisition_of optimum_of search_domain counts_fit advance_of score_of expected_improvement_of norm_cdf_of norm_pdf_of polynomial_of upper_of unit_of moved_of next_of xor_left xor_right posterior_mean_of posterior_std_of fit_of fit_domain fitted_of all_within every covariance_of similarity_of lengthscale_of variance_of mean_of value_deviation_of standard_of least_of_first cholesky_of columns_of rows_of less_of grown solve_of solution_of backward_of matern52_of scaled_root_of decay_of sum_over exp_of horner_of reduced_of scaled_of whole_of nearest_of round_of sqrt_of root_of isqrt of_bits to_bits round add sub mul div neg lt le is_nan of_int
found = (refl, refl, refl, refl, refl, refl, refl, refl, refl, refl, refl)

-- ---- the domain, of a model of these counts, without parts: no row, no column, 101 rows, 21 columns, two columns for one, and the word 0
abbrev counted : ℕ → ℕ → Model
counted n d = parts_of [] [] [] [] (float 0) n d

abbrev Domain : Type 0
Domain =
    (search_domain (counted 1 1) 1 1 ≡ true)
    × (search_domain (counted 100 20) 20 1 ≡ true)
    × (search_domain (counted 0 1) 1 1 ≡ false)
    × (search_domain (counted 1 0) 0 1 ≡ false)
    × (search_domain (counted 101 1) 1 1 ≡ false)
    × (search_domain (counted 1 21) 21 1 ≡ false)
    × (search_domain (counted 1 1) 2 1 ≡ false)
    × (search_domain (counted 1 2) 1 1 ≡ false)
    × (search_domain (counted 1 1) 1 0 ≡ false)
    × (optimize_acquisition_of (counted 0 1) 1 0 1 ≡ Err OutOfDomain)
    -- a draw: 21 coordinates, and the word 0
    × (made (λ c. c.next) (draw_point_of 20 1) ≡ Ok (moved_of 20 1))
    × (draw_point_of 21 1 ≡ Err OutOfDomain)
    × (draw_point_of 1 0 ≡ Err OutOfDomain)

domain : Domain
unfolding optimize_acquisition_of search_domain counts_fit draw_point_of
domain = (refl, refl, refl, refl, refl, refl, refl, refl, refl, refl, refl, refl, refl)

-- ---- eight at a time, from the words of document 01's sample book: 1, 40822041, 100041060c011441

abbrev Eight : Type 0
Eight =
    (take 3 (starts_of 1 1).words ≡ 1 ∷ 0x40822041 ∷ 0x100041060c011441 ∷ [])
    × (take 2 (starts_of 2 1).words ≡ 1 ∷ 0x100041060c011441 ∷ [])
    × ((starts_of 0 1).next ≡ 1)
    -- the first lane's float and next word
    × (take 1 (column_of (1 ∷ [])).values ≡ unit_of 0x40822041 ∷ [])
    × (take 1 (column_of (1 ∷ [])).next ≡ 0x40822041 ∷ [])
    -- two coordinates of the first lane, and no third row
    × (take 1 (get_or (points_of 2 (1 ∷ [])) 0 []) ≡ unit_of 0x40822041 ∷ [])
    × (take 1 (get_or (points_of 2 (1 ∷ [])) 1 []) ≡ unit_of 0x100041060c011441 ∷ [])
    × (get_or (points_of 2 (1 ∷ [])) 2 [] ≡ zero_row)
    -- of the scores 1, 2, 2 the second is kept; the word stays
    × (take 1 kept.best_x ≡ point_of 1 0x40822041)
    × (kept.best_ei ≡ float 2)
    × (kept.word ≡ 7)
  where
    kept : Search
    kept = kept_each_of 1 (1 ∷ 0x40822041 ∷ 0x100041060c011441 ∷ []) (float 1 ∷ float 2 ∷ float 2 ∷ []) 3 (start_of 1 7)

eight : Eight
unfolding kept_each_of moved_of next_of xor_left xor_right grown lt of_bits of_int
eight = (refl, refl, refl, refl, refl, refl, refl, refl, refl, refl, refl)
