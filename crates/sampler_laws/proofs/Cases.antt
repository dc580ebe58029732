-- The calls in a small run, computed: document 01's example of `propose`, then a new trial, its stored value, a draw past the last dimension, and closing; and what the laws say of them. Assumes nothing.
use Prim.Native.Nat.{ℕ}
use mathlib.Core.Path.{◌≡◌, refl}
use mathlib.Core.Bool.{true, false, cond}
use lib.Dec.{eqb}
use mathlib.Core.List.{[], ◌∷◌}
use lib.IntN.{pos}
use lib.Ieee.{binary64, of_bits, to_bits, of_int, to_signed, round, add, sub, mul, div, le, lt, eq, neg, is_nan}
use Rattle.arith.specs.Lists.{every, filled, grown, place_of, places_of}
use Rattle.rng_util.specs.Draws.{unit_of, word_draw_of, whole_draw_of, whole_of, range_ok}
use Rattle.rng_util.specs.Generator.{stream_of, moved_of, next_of as step}
use Rattle.distribution.specs.declared.Distribution.{Distribution}
use Rattle.distribution.specs.declared.ParamValue.{ParamValue}
use Rattle.distribution.specs.Shape.{shape_of, int_shape, int_step, categorical_shape}
use Rattle.distribution_words.specs.Words.{read_of, checked_of}
use Rattle.encoding.specs.Bounds.{bounds_of, ends_of}
use Rattle.arith.specs.Rounding.{nearest_of, round_of}
use Rattle.scaling.specs.Scaling.{from_normalized_of}
use Rattle.common.specs.Decode.{from_internal_of, decoded_of}
use Rattle.common.specs.Grid.{int_grid}
use Rattle.common.specs.Random.{sample_random_of, random_of, int_random, linear_int_random, categorical_random}
use Rattle.dimensions.specs.Empty.{empty_value}
use Rattle.dimensions.specs.Dimensions.{dimension_ok, dimensions_ok, columns_of}
use Rattle.std.specs.Prelude.{Option, Some, None, Result, Ok, Err}
use Rattle.refusal.specs.declared.Refusal.{Refusal}
use Rattle.refusal.specs.declared.Refusal.TheVariants.{Malformed, BrokenRows, UnknownTrial, OutOfDomain, NoRows}
use Rattle.arith.specs.Outcome.{made}
use Rattle.gp_model.specs.Fit.{fit_of, fit_domain}
use Rattle.gp_model.specs.Statistics.{all_within}
use Rattle.param_mapping.specs.Mapping.{insert_by_id, entries_of, first_entry, matches_of, mapped_of, asked_of}
use Rattle.history_rows.specs.Rows.{whole_rows, row_count, recent_count, recent_of}
use Rattle.history_rows.specs.Tests.{recent_tests, check_of}
use Rattle.history.specs.Training.{kept_of, trains_of, covers_of, x_of, y_of, training_of, recent_training}
use Rattle.history_view.specs.View.{view_of}
use Rattle.settings.specs.Settings.{settings_ok}
use Rattle.proposal.specs.Points.{point_for}
use Rattle.proposal.specs.Proposal.{candidate_of, compute_candidate_of}
use Rattle.proposal.specs.Values.{step_of, walk_of}
use Rattle.sampler_laws.specs.declared.Answer.{Answer}
use Rattle.sampler_laws.specs.declared.Sampled.{Sampled}
use Rattle.sampler_laws.specs.declared.Serving.{Serving}
use Rattle.sampler_state.specs.declared.Place.{Place}
use Rattle.sampler_state.specs.declared.Sampler.{Sampler}
use Rattle.sampler_laws.specs.Calls.{refused_of, answered_of, with_word, with_place, activated, written_of, discover_of, serving_of, active_of, served_of, sample_of, close_of}
use Rattle.sampler_laws.specs.Laws.{words_taken}
use Rattle.sampler_laws.specs.NewTrials.{new_trial, served_history, fit_made, fit_answer, has_model, continuous, choices, point_drawn}
use Rattle.sampler_laws.specs.Runs.{Asked, Call, asks, closes, answers_of, end_of}
use Rattle.sampler_state.specs.State.{empty_place, fresh_of, place_at, trial_place, free_place, spot_for, taken_count, place_ok, trials_once, sampler_ok}

-- start-up 10, no candidates, no noise, seed 1, one slot
abbrev fresh : Sampler
fresh = fresh_of (record { n_startup_trials = 10; n_candidates = 0; noise_variance = of_bits binary64 0; seed = 1; slots = 1 })

-- a choice of 5 and an int from 0 to 9, asked for a trial with no history
abbrev choice : Sampler → ℕ → Sampled
choice s trial = sample_of s 3 5 0 0 0 0 trial []

abbrev int : Sampler → ℕ → Sampled
int s trial = sample_of s 2 0 9 0 0 0 trial []

abbrev first : Sampled
first = choice fresh 7

abbrev second : Sampled
second = int first.sampler 7

-- another trial ends discovery: both its values are drawn and stored
abbrev pub third : Sampled
third = choice second.sampler 8

abbrev fourth : Sampled
fourth = int third.sampler 8

-- past the last dimension
abbrev fifth : Sampled
fifth = int fourth.sampler 8

abbrev closed : Sampled
closed = close_of fifth.sampler 8

-- an accepted answer with a value, and a refused call
abbrev pub told : ParamValue → ℕ → Result Answer Refusal
told v drawn = Ok (record { value = Some v; drawn = drawn })

abbrev Run : Type 0
Run =
    (first.answer ≡ told (ParamValue.Categorical 1) 1)
    × (second.answer ≡ told (ParamValue.Int (pos 5)) 1)
    × (third.answer ≡ told (ParamValue.Categorical 2) 2)
    × (fourth.answer ≡ told (ParamValue.Int (pos 5)) 0)
    × (fifth.answer ≡ told (ParamValue.Int (pos 3)) 1)
    × (taken_count fifth.sampler.places ≡ 1)
    × (closed.answer ≡ Ok (record { value = None; drawn = 0 }))
    × (taken_count closed.sampler.places ≡ 0)
    -- the discovery trial has no place; a malformed distribution; words that are no whole row; a zero generator word
    × ((close_of second.sampler 7).answer ≡ Err UnknownTrial)
    × ((sample_of fresh 0 0 0 0 0 0 7 []).answer ≡ Err Malformed)
    × ((sample_of fresh 3 5 0 0 0 0 7 (0 ∷ [])).answer ≡ Err BrokenRows)
    × ((choice (with_word fresh 0) 7).answer ≡ Err OutOfDomain)

run : Run
unfolding sample_of close_of discover_of serving_of active_of served_of trial_place free_place spot_for taken_count place_ok trials_once sampler_ok settings_ok candidate_of compute_candidate_of step_of walk_of view_of training_of recent_training asked_of dimension_ok dimensions_ok columns_of whole_rows row_count recent_count recent_of recent_tests check_of bounds_of ends_of sample_random_of random_of int_random linear_int_random categorical_random shape_of int_shape int_step categorical_shape read_of checked_of word_draw_of whole_draw_of whole_of range_ok step every grown place_of places_of of_bits to_bits of_int le lt eq neg
run = (refl, refl, refl, refl, refl, refl, refl, refl, refl, refl, refl, refl)

-- ---- the same run as a list of calls, and what the laws say of each

abbrev asked : ℕ → ℕ → Asked
asked kind high = record { kind = kind; low = cond (eqb kind 3) high 0; high = cond (eqb kind 3) 0 high; log = 0; stepped = 0; step = 0 }

-- the choice of 5 and the int from 0 to 9
abbrev pub choose : ℕ → Call
choose trial = asks (asked 3 5) trial []

abbrev pub count : ℕ → Call
count trial = asks (asked 2 9) trial []

abbrev Laws : Type 0
Laws =
    (answers_of fresh (choose 7 ∷ count 7 ∷ []) ≡ told (ParamValue.Categorical 1) 1 ∷ told (ParamValue.Int (pos 5)) 1 ∷ [])
    × (end_of fresh (choose 7 ∷ count 7 ∷ []) ≡ second.sampler)
    -- a call of the discovery trial is no new trial's, nor one of a trial with a place, nor a close; the one that ends discovery is
    × (new_trial fresh (choose 7) ≡ false)
    × (new_trial second.sampler (choose 8) ≡ true)
    × (new_trial third.sampler (count 8) ≡ false)
    × (new_trial third.sampler (closes 8) ≡ false)
    -- a random draw takes a word, a new trial without a model one for each dimension, a stored value none
    × (words_taken fresh (choose 7) ≡ 1)
    × (words_taken second.sampler (choose 8) ≡ 2)
    × (words_taken third.sampler (count 8) ≡ 0)
    × (words_taken fourth.sampler (count 8) ≡ 1)
    × (words_taken fourth.sampler (closes 8) ≡ 0)
    -- the call that ends discovery sees no history; later ones do
    × (served_history second.sampler (4 ∷ []) ≡ [])
    × (served_history third.sampler (4 ∷ []) ≡ 4 ∷ [])
    -- the int is a column, the choice is not
    × (continuous third.sampler ≡ 1)
    × (choices third.sampler ≡ 1)
    × (fit_made third.sampler [] ≡ false)

laws : Laws
unfolding new_trial has_model words_taken answers_of end_of sample_of close_of discover_of serving_of active_of served_of trial_place free_place spot_for taken_count place_ok trials_once sampler_ok settings_ok candidate_of compute_candidate_of step_of walk_of view_of training_of recent_training asked_of dimension_ok dimensions_ok columns_of whole_rows row_count recent_count recent_of recent_tests check_of bounds_of ends_of sample_random_of random_of int_random linear_int_random categorical_random shape_of int_shape int_step categorical_shape read_of checked_of word_draw_of whole_draw_of whole_of range_ok step every grown place_of places_of of_bits to_bits of_int le lt eq neg
laws = (refl, refl, refl, refl, refl, refl, refl, refl, refl, refl, refl, refl, refl, refl, refl, refl)

-- ---- one trial served, and put back

-- trial 8 of the run, with the values 2 and 7 and its next dimension given
abbrev at : ℕ → Place
at next = record { trial = 8; values = filled empty_value 20 (ParamValue.Categorical 2 ∷ ParamValue.Int (pos 7) ∷ []); next_dim = next }

-- the int from 0 to 9 asked, with the dimensions of the run and the generator's word 1
abbrev serve : Option Place → Result Serving Refusal
serve p = serving_of fresh.settings second.sampler.dimensions.list 2 1 p (Distribution.Int (record { low = pos 0; high = pos 9; log_scale = false; step = None })) 8 []

-- a serving put back as place 3 of a sampler that has a place 0
abbrev before : Sampler
before = with_place fresh 0 (Some (at 1))

abbrev put : Result Serving Refusal → Sampled
put r = answered_of before (made (written_of before 3) r)

-- what a new trial 8 leaves
abbrev new : Place
new = record { trial = 8; values = filled empty_value 20 (ParamValue.Categorical 1 ∷ ParamValue.Int (pos 5) ∷ []); next_dim = 1 }

-- a value served, with the words drawn and the generator's next word, and the place left
abbrev serving : ParamValue → ℕ → ℕ → Place → Result Serving Refusal
serving v drawn next p = Ok (record { draw = record { value = v; drawn = drawn; next = next }; place = p })

abbrev Servings : Type 0
Servings =
    -- the value at the next dimension, not the first, and no word; the place moved on by one
    (serve (Some (at 1)) ≡ serving (ParamValue.Int (pos 7)) 0 1 (at 2))
    -- past the last a draw, and the place as it was
    × (serve (Some (at 2)) ≡ serving (ParamValue.Int (pos 1)) 1 0x40822041 (at 2))
    -- a free place: a new trial; both values drawn and stored, the first answered
    × (serve empty_place ≡ serving (ParamValue.Categorical 1) 2 0x100041060c011441 new)
    -- put back: its place, no other, and its word; a refused one leaves all as it was
    × (place_at (put (serve (Some (at 1)))).sampler.places 3 ≡ Some (at 2))
    × (place_at (put (serve (Some (at 2)))).sampler.places 0 ≡ Some (at 1))
    × ((put (serve (Some (at 2)))).sampler.word ≡ 0x40822041)
    × ((put (serve (Some (at 2)))).answer ≡ told (ParamValue.Int (pos 1)) 1)
    × (put (Err OutOfDomain) ≡ refused_of before OutOfDomain)

servings : Servings
unfolding sample_of close_of discover_of serving_of active_of served_of trial_place free_place spot_for taken_count place_ok trials_once sampler_ok settings_ok candidate_of compute_candidate_of step_of walk_of view_of training_of recent_training asked_of dimension_ok dimensions_ok columns_of whole_rows row_count recent_count recent_of recent_tests check_of bounds_of ends_of sample_random_of random_of int_random linear_int_random categorical_random shape_of int_shape int_step categorical_shape read_of checked_of word_draw_of whole_draw_of whole_of range_ok step every grown place_of places_of of_bits to_bits of_int le lt eq neg
servings = (refl, refl, refl, refl, refl, refl, refl, refl)

-- ---- runs from the seed 42, whose words among 5 and among 10 are 4 4, 1 1, 4 4, 1 6, 2 2, 2 7, 0 5

-- that start-up count; trial 7 has discovered the choice of 5 and the int from 0 to 9, by the first two words
abbrev seeded : ℕ → Sampler
seeded startup = (int (choice (fresh_of (record { n_startup_trials = startup; n_candidates = 0; noise_variance = of_bits binary64 0; seed = 42; slots = 1 })) 7).sampler 7).sampler

-- trial 8 asks for two values, and trial 9 for two
abbrev eight : ℕ → Sampled
eight startup = choice (seeded startup) 8

abbrev eight_next : ℕ → Sampled
eight_next startup = int (eight startup).sampler 8

abbrev nine : ℕ → Sampled
nine startup = choice (eight_next startup).sampler 9

abbrev nine_next : ℕ → Sampled
nine_next startup = int (nine startup).sampler 9

-- an int from 0 to 99, asked past trial 8's last dimension
abbrev beyond : Sampler → Sampled
beyond s = sample_of s 2 0 99 0 0 0 8 []

abbrev Random : Type 0
Random =
    -- start-up 10 is not reached: each new trial gets values of its own, in the dimensions' order
    ((eight 10).answer ≡ told (ParamValue.Categorical 4) 2)
    × ((eight_next 10).answer ≡ told (ParamValue.Int (pos 6)) 0)
    × ((nine 10).answer ≡ told (ParamValue.Categorical 2) 2)
    × ((nine_next 10).answer ≡ told (ParamValue.Int (pos 7)) 0)
    -- past the last the seventh word is drawn from what is asked, 75 of 0 to 99
    × ((beyond (nine_next 10).sampler).answer ≡ told (ParamValue.Int (pos 75)) 1)

random : Random
unfolding sample_of discover_of serving_of active_of served_of trial_place free_place spot_for taken_count place_ok trials_once sampler_ok settings_ok candidate_of compute_candidate_of step_of walk_of view_of training_of recent_training asked_of dimension_ok dimensions_ok columns_of whole_rows row_count recent_count recent_of recent_tests check_of bounds_of ends_of sample_random_of random_of int_random linear_int_random categorical_random shape_of int_shape int_step categorical_shape read_of checked_of word_draw_of whole_draw_of whole_of range_ok step every grown place_of places_of of_bits to_bits of_int le lt eq neg
random = (refl, refl, refl, refl, refl)

-- start-up 0 is reached without a row: the fit is refused, the third word is the int's unit float, 0.543, and the fourth the choice
abbrev Refused : Type 0
Refused =
    ((eight 0).answer ≡ told (ParamValue.Categorical 1) 2)
    × ((eight_next 0).answer ≡ told (ParamValue.Int (pos 5)) 0)
    × ((nine 0).answer ≡ told (ParamValue.Categorical 2) 2)
    × ((nine_next 0).answer ≡ told (ParamValue.Int (pos 3)) 0)

refused : Refused
unfolding sample_of discover_of serving_of active_of served_of trial_place free_place spot_for taken_count place_ok trials_once sampler_ok settings_ok candidate_of compute_candidate_of point_for fit_of fit_domain all_within step_of walk_of from_normalized_of from_internal_of decoded_of int_grid nearest_of round_of view_of training_of recent_training kept_of trains_of covers_of x_of y_of asked_of mapped_of entries_of insert_by_id first_entry matches_of dimension_ok dimensions_ok columns_of whole_rows row_count recent_count recent_of recent_tests check_of bounds_of ends_of sample_random_of random_of int_random linear_int_random categorical_random shape_of int_shape int_step categorical_shape read_of checked_of word_draw_of whole_draw_of whole_of range_ok unit_of moved_of step every grown place_of places_of of_bits to_bits of_int to_signed round add sub mul div neg le lt eq is_nan
refused = (refl, refl, refl, refl)

-- two candidates and no start-up: after discovery of the int a new trial without a row asks for a fit, which has none, and its points would be the next two words
abbrev eager : Sampler
eager = activated (int (fresh_of (record { n_startup_trials = 0; n_candidates = 2; noise_variance = of_bits binary64 0; seed = 1; slots = 1 })) 7).sampler

abbrev Points : Type 0
Points =
    (fit_made eager [] ≡ true)
    × (fit_answer eager [] ≡ Err NoRows)
    × (has_model eager [] ≡ false)
    × (point_drawn (with_word eager 1) 0 ≡ unit_of 0x40822041 ∷ [])
    × (point_drawn (with_word eager 1) 1 ≡ unit_of 0x100041060c011441 ∷ [])

points : Points
unfolding has_model point_drawn stream_of fit_of fit_domain all_within sample_of discover_of served_of sampler_ok settings_ok view_of training_of recent_training asked_of mapped_of kept_of x_of y_of dimension_ok dimensions_ok columns_of whole_rows row_count recent_count recent_of recent_tests check_of bounds_of ends_of sample_random_of random_of int_random linear_int_random shape_of int_shape int_step read_of checked_of word_draw_of whole_draw_of whole_of range_ok step every grown places_of place_ok trials_once of_bits to_bits of_int le lt eq neg
points = (refl, refl, refl, refl, refl)
