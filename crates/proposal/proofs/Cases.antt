-- The fit of training data, and a new trial's values, computed: at random, after a refused fit, and from a model without candidates. Assumes nothing.
use Prim.Native.Nat.{ℕ}
use mathlib.Core.Path.{◌≡◌, refl}
use mathlib.Core.Bool.{false}
use mathlib.Core.List.{List, [], ◌∷◌}
use lib.IntN.{pos}
use lib.Ieee.{Float, binary64, of_bits, to_bits, of_int, to_signed, round, add, sub, mul, div, neg, le, lt, eq, is_nan}
use Rattle.std.specs.Prelude.{Result, Ok, Err, None}
use Rattle.refusal.specs.declared.Refusal.{Refusal}
use Rattle.refusal.specs.declared.Refusal.TheVariants.{BrokenRows, OutOfDomain}
use Rattle.exponential.specs.Exp.{exp_of, horner_of, reduced_of, scaled_of, whole_of}
use Rattle.arith.specs.Lists.{every, filled, grown, padded, place_of, places_of}
use Rattle.arith.specs.Rounding.{nearest_of, round_of}
use Rattle.root.specs.Sqrt.{isqrt, root_of, sqrt_of}
use Rattle.arith.specs.Sums.{sum_over}
use Rattle.factor.specs.Cholesky.{columns_of as factor_columns, cholesky_of}
use Rattle.factor.specs.Triangle.{rows_of, less_of}
use Rattle.kernel.specs.Matern.{scaled_root_of, decay_of, matern52_of}
use Rattle.rng_util.specs.Draws.{unit_of, word_draw_of, whole_draw_of, whole_of as whole_at, range_ok}
use Rattle.rng_util.specs.Generator.{next_of, moved_of}
use Rattle.distribution.specs.declared.Distribution.{Distribution}
use Rattle.distribution.specs.declared.ParamValue.{ParamValue}
use Rattle.distribution.specs.Shape.{shape_of, int_shape, int_step, categorical_shape}
use Rattle.encoding.specs.Bounds.{bounds_of, ends_of}
use Rattle.distribution.specs.Equal.{equal_of}
use Rattle.distribution.specs.Taken.{taken_of, value_of, int_taken}
use Rattle.distribution_words.specs.Words.{read_of, checked_of}
use Rattle.encoding.specs.Encode.{encoded_of, to_internal_of}
use Rattle.common.specs.Decode.{from_internal_of, decoded_of}
use Rattle.common.specs.Grid.{int_grid}
use Rattle.common.specs.Random.{sample_random_of, random_of, int_random, linear_int_random, categorical_random}
use Rattle.gp_model.specs.Fit.{fit_domain, fitted_of, fit_of}
use Rattle.gp_model.specs.Kernels.{covariance_of, similarity_of}
use Rattle.search.specs.Search.{advance_of, optimum_of}
use Rattle.scaling.specs.Scaling.{from_normalized_of, to_normalized_of}
use Rattle.gp_model.specs.Statistics.{all_within, lengthscale_of, mean_of, variance_of}
use Rattle.dimensions.specs.declared.DimensionInfo.{DimensionInfo}
use Rattle.dimensions.specs.Dimensions.{dimension_of, dimension_ok, dimensions_ok, columns_of}
use Rattle.param_mapping.specs.Mapping.{insert_by_id, entries_of, first_entry, consumed_of, matches_of, mapped_of, asked_of}
use Rattle.history_rows.specs.Rows.{whole_rows, row_count, recent_count, recent_of}
use Rattle.history_rows.specs.Tests.{row_ok, slots_ok, ids_once, rows_agreeing, recent_tests, check_of}
use Rattle.slots.specs.Slot.{slot_read, slot_ok, agreeing}
use Rattle.history_rows.specs.Slots.{slot_with}
use Rattle.history.specs.Training.{entry_of, column_of, kept_of, trains_of, covers_of, x_of, y_of, training_of, recent_training}
use Rattle.history_view.specs.View.{view_of}
use Rattle.settings.specs.declared.Settings.{Settings}
use Rattle.settings.specs.Settings.{settings_ok}
use Rattle.proposal.specs.Points.{fit_for, point_for}
use Rattle.proposal.specs.Proposal.{candidate_of, compute_candidate_of}
use Rattle.dimensions.specs.Empty.{empty_value}
use Rattle.proposal.specs.Values.{Values, step_of, walk_of}

abbrev float : ℕ → Float
float n = of_int binary64 (pos n)

-- that start-up count and noise, no candidates, one slot
abbrev noisy : ℕ → ℕ → Settings
noisy startup noise = record { n_startup_trials = startup; n_candidates = 0; noise_variance = of_bits binary64 noise; seed = 1; slots = 1 }

-- without noise
abbrev settings : ℕ → Settings
settings startup = noisy startup 0

-- a choice of 5, then an int from 0 to 9
abbrev dims : List DimensionInfo
dims = dimension_of (Distribution.Categorical (record { n_choices = 5 })) ∷ dimension_of (Distribution.Int (record { low = pos 0; high = pos 9; log_scale = false; step = None })) ∷ []

-- two values in an array of 20, the words drawn for them and the generator's next word
abbrev told : ParamValue → ParamValue → ℕ → ℕ → Result Values Refusal
told a b drawn next = Ok (record { value = filled empty_value 20 (a ∷ b ∷ []); drawn = drawn; next = next })

-- ---- the fit of training data

-- two rows of one column, without what lies past them in the arrays
abbrev Fitted : Type 0
Fitted =
    fit_for (record { n = 2; d = 1; x = padded 2000 (float 0 ∷ float 1 ∷ []); y = padded 100 (float 1 ∷ float 3 ∷ []) }) (float 1)
    ≡ fit_of (float 0 ∷ float 1 ∷ []) (float 1 ∷ float 3 ∷ []) 1 (float 1)

fitted : Fitted
fitted = refl

-- ---- a new trial's values

abbrev New : Type 0
New =
    -- start-up 10 is not reached: the first word among 5 choices gives 1, the second in 0..9 gives 5
    (compute_candidate_of (settings 10) dims 2 1 [] ≡ told (ParamValue.Categorical 1) (ParamValue.Int (pos 5)) 2 0x100041060c011441)
    -- start-up 0 is reached without a row: the fit is refused, the first word is the int's unit float, some 2 ^ -34, and the second the choice
    × (compute_candidate_of (settings 0) dims 2 1 [] ≡ told (ParamValue.Categorical 0) (ParamValue.Int (pos 0)) 2 0x100041060c011441)
    -- a zero word, and words that are no whole row
    × (compute_candidate_of (settings 0) dims 2 0 [] ≡ Err OutOfDomain)
    × (compute_candidate_of (settings 0) dims 2 1 (7 ∷ []) ≡ Err BrokenRows)

new : New
unfolding compute_candidate_of candidate_of point_for step_of walk_of settings_ok view_of training_of recent_training kept_of trains_of covers_of x_of y_of asked_of mapped_of entries_of insert_by_id first_entry matches_of dimension_ok dimensions_ok columns_of whole_rows row_count recent_count recent_of recent_tests check_of fit_of fit_domain all_within from_normalized_of bounds_of ends_of from_internal_of decoded_of int_grid sample_random_of random_of int_random linear_int_random categorical_random shape_of int_shape int_step categorical_shape word_draw_of whole_draw_of whole_at range_ok unit_of next_of moved_of nearest_of round_of every grown place_of places_of of_bits to_bits of_int to_signed round add sub mul div neg le lt eq is_nan
new = (refl, refl, refl, refl)

-- one row, the int taken at 5: start-up 1 is reached, the fit gives a model, and without candidates every coordinate is 0.5, which decodes to 5; the choice takes the one word
abbrev Modelled : Type 0
Modelled = compute_candidate_of (settings 1) dims 2 1 (7 ∷ 1 ∷ 0 ∷ 9 ∷ 2 ∷ 0 ∷ 9 ∷ 0 ∷ 0 ∷ 0 ∷ 5 ∷ []) ≡ told (ParamValue.Categorical 1) (ParamValue.Int (pos 5)) 1 0x40822041

modelled : Modelled
unfolding compute_candidate_of candidate_of point_for step_of walk_of settings_ok view_of training_of recent_training slot_with entry_of column_of kept_of trains_of covers_of x_of y_of asked_of mapped_of entries_of insert_by_id first_entry consumed_of matches_of dimension_ok dimensions_ok columns_of whole_rows row_count recent_count recent_of row_ok slot_read slot_ok agreeing slots_ok ids_once rows_agreeing recent_tests check_of equal_of taken_of value_of int_taken read_of checked_of encoded_of to_internal_of to_normalized_of optimum_of advance_of fit_of fit_domain fitted_of all_within covariance_of similarity_of lengthscale_of variance_of mean_of cholesky_of factor_columns rows_of less_of matern52_of scaled_root_of decay_of sum_over exp_of horner_of reduced_of scaled_of whole_of sqrt_of root_of isqrt from_normalized_of bounds_of ends_of from_internal_of decoded_of int_grid sample_random_of random_of int_random linear_int_random categorical_random shape_of int_shape int_step categorical_shape word_draw_of whole_draw_of whole_at range_ok unit_of next_of moved_of nearest_of round_of every grown place_of places_of of_bits to_bits of_int to_signed round add sub mul div neg le lt eq is_nan
modelled = refl

-- two rows alike, the int taken at 5: without noise the second pivot is 0, so that the fit is refused and the int is the first word's unit float, some 2 ^ -34, and the choice the second word's;
-- with a noise of 1 there is a model, whose point without candidates is all 0.5, and the choice takes the first word
abbrev alike : List ℕ
alike = 7 ∷ 1 ∷ 0 ∷ 9 ∷ 2 ∷ 0 ∷ 9 ∷ 0 ∷ 0 ∷ 0 ∷ 5 ∷ 8 ∷ 1 ∷ 0 ∷ 9 ∷ 2 ∷ 0 ∷ 9 ∷ 0 ∷ 0 ∷ 0 ∷ 5 ∷ []

abbrev Noise : Type 0
Noise =
    (compute_candidate_of (noisy 2 0) dims 2 1 alike ≡ told (ParamValue.Categorical 0) (ParamValue.Int (pos 0)) 2 0x100041060c011441)
    × (compute_candidate_of (noisy 2 0x3ff0000000000000) dims 2 1 alike ≡ told (ParamValue.Categorical 1) (ParamValue.Int (pos 5)) 1 0x40822041)

noise : Noise
unfolding compute_candidate_of candidate_of point_for step_of walk_of settings_ok view_of training_of recent_training slot_with entry_of column_of kept_of trains_of covers_of x_of y_of asked_of mapped_of entries_of insert_by_id first_entry consumed_of matches_of dimension_ok dimensions_ok columns_of whole_rows row_count recent_count recent_of row_ok slot_read slot_ok agreeing slots_ok ids_once rows_agreeing recent_tests check_of equal_of taken_of value_of int_taken read_of checked_of encoded_of to_internal_of to_normalized_of optimum_of advance_of fit_of fit_domain fitted_of all_within covariance_of similarity_of lengthscale_of variance_of mean_of cholesky_of factor_columns rows_of less_of matern52_of scaled_root_of decay_of sum_over exp_of horner_of reduced_of scaled_of whole_of sqrt_of root_of isqrt from_normalized_of bounds_of ends_of from_internal_of decoded_of int_grid sample_random_of random_of int_random linear_int_random categorical_random shape_of int_shape int_step categorical_shape word_draw_of whole_draw_of whole_at range_ok unit_of next_of moved_of nearest_of round_of every grown place_of places_of of_bits to_bits of_int to_signed round add sub mul div neg le lt eq is_nan
noise = (refl, refl)
