-- What a run notes, and what its calls answer for, computed along a run of one float; and a stored value of another run. Assumes nothing.
use Prim.Native.Nat.{ℕ}
use mathlib.Core.Path.{◌≡◌, refl}
use mathlib.Core.Bool.{true, false}
use mathlib.Core.List.{[], ◌∷◌}
use lib.IntN.{pos}
use lib.Ieee.{binary64, of_bits, to_bits, of_int, round, add, sub, mul, div, le, lt, eq, neg, is_nan}
use Rattle.arith.specs.Lists.{every, grown, place_of, places_of}
use Rattle.exponential.specs.Exp.{exp_of, scaled_of, reduced_of, horner_of, whole_of as whole_power}
use Rattle.logarithm.specs.Ln.{ln_of, halved_of, series_of, series, normal, field, digits, mantissa_of, exponent_of}
use Rattle.rng_util.specs.Draws.{unit_of, word_draw_of, unit_draw_of, whole_draw_of, whole_of, range_ok}
use Rattle.rng_util.specs.Generator.{next_of as step}
use Rattle.distribution.specs.declared.Distribution.{Distribution}
use Rattle.distribution.specs.declared.ParamValue.{ParamValue}
use Rattle.distribution.specs.Shape.{shape_of, float_shape, int_shape, int_step, categorical_shape}
use Rattle.distribution_words.specs.Words.{read_of, checked_of}
use Rattle.encoding.specs.Bounds.{bounds_of, ends_of}
use Rattle.arith.specs.Rounding.{nearest_of, round_of}
use Rattle.common.specs.Grid.{float_grid}
use Rattle.common.specs.Random.{sample_random_of, random_of, float_random, unclamped_random, log_float_random, int_random, linear_int_random, categorical_random}
use Rattle.dimensions.specs.Dimensions.{dimension_ok, dimensions_ok, columns_of}
use Rattle.std.specs.Prelude.{Some, None}
use Rattle.param_mapping.specs.Mapping.{asked_of}
use Rattle.history_rows.specs.Rows.{whole_rows, row_count, recent_count, recent_of}
use Rattle.history_rows.specs.Tests.{recent_tests, check_of}
use Rattle.history.specs.Training.{training_of, recent_training}
use Rattle.history_view.specs.View.{view_of}
use Rattle.settings.specs.Settings.{settings_ok}
use Rattle.proposal.specs.Proposal.{candidate_of, compute_candidate_of}
use Rattle.proposal.specs.Values.{step_of, walk_of}
use Rattle.sampler_laws.specs.declared.Sampled.{Sampled}
use Rattle.sampler_state.specs.declared.Sampler.{Sampler}
use Rattle.sampler_laws.specs.Calls.{discover_of, serving_of, active_of, served_of, sample_of, close_of}
use Rattle.sampler_laws.specs.NewTrials.{new_trial}
use Rattle.sampler_laws.specs.Received.{Noted, noted_of, served_for}
use Rattle.sampler_laws.specs.Runs.{Asked, Call, asks, closes, call_of}
use Rattle.sampler_state.specs.State.{fresh_of, trial_place, free_place, spot_for, place_ok, trials_once, sampler_ok}
use Rattle.sampler_laws.proofs.Cases.{told, third, choose, count}

-- ---- what a value was drawn or decoded for

-- a float from 0.0001 to 0.1 on log scale, as six words and as the distribution, and the int from 0 to 9
abbrev asked_float : Asked
asked_float = record { kind = 1; low = 0x3f1a36e2eb1c432d; high = 0x3fb999999999999a; log = 1; stepped = 0; step = 0 }

abbrev asks_float : ℕ → Call
asks_float trial = asks asked_float trial []

abbrev float : Distribution
float = Distribution.Float (record { low = of_bits binary64 0x3f1a36e2eb1c432d; high = of_bits binary64 0x3fb999999999999a; log_scale = true; step = None })

abbrev number : Distribution
number = Distribution.Int (record { low = pos 0; high = pos 9; log_scale = false; step = None })

-- start-up 10, no candidates: trial 7 discovers the float; trial 8 asks the int twice
abbrev begun : Sampler
begun = fresh_of (record { n_startup_trials = 10; n_candidates = 0; noise_variance = of_bits binary64 0; seed = 0x581299a8616bfcb4; slots = 1 })

abbrev discovered : Sampled
discovered = call_of begun (asks_float 7)

abbrev opened : Sampled
opened = call_of discovered.sampler (count 8)

-- nothing noted before; then after each of trial 8's calls
abbrev blank : Noted
blank = λ t. []

abbrev noted : Noted
noted = noted_of blank discovered.sampler (count 8)

abbrev noted_then : Noted
noted_then = noted_of noted opened.sampler (count 8)

-- a call whose six words are no distribution
abbrev malformed : Call
malformed = asks (record { kind = 4; low = 0; high = 0; log = 0; stepped = 0; step = 0 }) 9 []

-- of each trial other distributions than the dimensions'
abbrev other : Noted
other = λ t. number ∷ float ∷ []

abbrev Received : Type 0
Received =
    -- in discovery the distribution asked; a new trial's first value is its dimension's, whatever is asked; past the last the
    -- distribution asked again
    (served_for blank begun (asks_float 7) ≡ Some float)
    × (served_for blank discovered.sampler (count 8) ≡ Some float)
    × (served_for noted opened.sampler (count 8) ≡ Some number)
    × (served_for noted opened.sampler (closes 8) ≡ None)
    -- so trial 8 receives a float where an int was asked: low itself, and one word is drawn for it
    × (opened.answer ≡ told (ParamValue.Float (of_bits binary64 0x3f1a36e2eb1c432d)) 1)
    -- noted is a new trial alone: none in discovery, no other trial, none at a refused call or a close
    × (noted_of blank discovered.sampler (count 7) 7 ≡ [])
    × (noted 8 ≡ float ∷ [])
    × (noted 7 ≡ [])
    × (noted_then 8 ≡ float ∷ [])
    × (noted_of blank opened.sampler malformed 9 ≡ [])
    × (noted_of other opened.sampler (count 9) 8 ≡ number ∷ float ∷ [])
    × (noted_of other opened.sampler (closes 8) 8 ≡ number ∷ float ∷ [])
    -- a trial closed and opened again is noted again
    × (noted_of other (close_of opened.sampler 8).sampler (count 8) 8 ≡ float ∷ [])
    -- in the run of Cases.antt the second value of trial 8 is stored: it is of what is noted second, not of the dimensions
    × (served_for other third.sampler (choose 8) ≡ Some float)
    × (noted_of other third.sampler (choose 8) 8 ≡ number ∷ float ∷ [])

received : Received
unfolding served_for new_trial sample_of close_of discover_of serving_of active_of served_of trial_place free_place spot_for place_ok trials_once sampler_ok settings_ok candidate_of compute_candidate_of step_of walk_of view_of training_of recent_training asked_of dimension_ok dimensions_ok columns_of whole_rows row_count recent_count recent_of recent_tests check_of bounds_of ends_of exp_of scaled_of reduced_of horner_of whole_power ln_of halved_of series_of series normal field digits mantissa_of exponent_of nearest_of round_of sample_random_of random_of float_random unclamped_random log_float_random float_grid int_random linear_int_random categorical_random shape_of float_shape int_shape int_step categorical_shape read_of checked_of word_draw_of unit_draw_of unit_of whole_draw_of whole_of range_ok step every grown place_of places_of of_bits to_bits of_int round add sub mul div neg le lt eq is_nan
received = (refl, refl, refl, refl, refl, refl, refl, refl, refl, refl, refl, refl, refl, refl, refl)
