-- What is promised of the calls, for every sampler and every run. Statements, and the definitions that they use.
use Rattle.std.specs.Prelude.{ℕ, ◌+◌, ◌*◌, ◌^◌, ◌<◌, ◌≡◌, Bool, false, not, ◌&&◌, ◌||◌, cond, List, [], ◌∷◌, T, eqb, ltb, length, get_or, Float, Option, Some, None, Ok, Err, is_ok}
use Rattle.std.specs.Float.{binary64}
use Rattle.std.specs.Float.Ieee.{fits}
use Rattle.refusal.specs.declared.Refusal.{Refusal}
use Rattle.refusal.specs.Numbers.{number_of}
use Rattle.rng_util.specs.declared.Draw.{Draw}
use Rattle.rng_util.specs.Generator.{moved_of}
use Rattle.distribution.specs.declared.Distribution.{Distribution}
use Rattle.distribution.specs.declared.ParamValue.{ParamValue}
use Rattle.distribution_words.specs.RoundTrip.{Held}
use Rattle.distribution.specs.Range.{in_range}
use Rattle.distribution.specs.Shape.{shape_of}
use Rattle.distribution_words.specs.Words.{read_of}
use Rattle.common.specs.Random.{sample_random_of}
use Rattle.dimensions.specs.Dimensions.{dimension_at}
use Rattle.dimensions.specs.Empty.{empty_value}
use Rattle.history_rows.specs.Tests.{check_of}
use Rattle.history_view.specs.Agree.{Agree}
use Rattle.settings.specs.declared.Settings.{Settings}
use Rattle.settings.specs.Settings.{settings_ok}
use Rattle.gp_model.specs.Fit.{fit_of}
use Rattle.proposal.specs.Proposal.{compute_candidate_of}
use Rattle.sampler_state.specs.declared.Place.{Place}
use Rattle.sampler_state.specs.declared.Sampler.{Sampler}
use Rattle.sampler_laws.specs.declared.Answer.{Answer}
use Rattle.sampler_laws.specs.Causes.{first_cause, cause_of, fit_cause_of}
use Rattle.sampler_laws.specs.NewTrials.{new_trial, served_history, fit_made, fit_answer, has_model, continuous, choices, RandomStored, BestStored}
use Rattle.sampler_laws.specs.Runs.{Asked, asks, closes, Call, call_of, call_number, drawn_in, answers_of, end_of, with_histories, Along, Alike}
use Rattle.sampler_laws.specs.Served.{ServedRight}
use Rattle.sampler_state.specs.State.{fresh_of, make_of, trial_place, held_by, taken_count, sampler_ok}

-- ---- demand 3, one statement about the whole list

-- the same calls with histories that agree: "then answers, words drawn and end state are equal in both runs". "In each
-- run, every new trial with a model stores .." the decoding of the best point, whatever the histories. Compared are all
-- runs that "differ only in the histories", where these agree
abbrev pub EqualRuns : Type 0
EqualRuns =
    (s : Settings) → T (settings_ok s) → (cs ds : List Call)
    → (Alike s.slots s.n_startup_trials cs ds → (answers_of (fresh_of s) cs ≡ answers_of (fresh_of s) ds) × (end_of (fresh_of s) cs ≡ end_of (fresh_of s) ds))
    × Along BestStored (fresh_of s) cs
    × Along BestStored (fresh_of s) ds
    × ((g h : ℕ → List ℕ) → ((i : ℕ) → Agree s.slots s.n_startup_trials (g i) (h i)) → Alike s.slots s.n_startup_trials (with_histories g cs) (with_histories h cs))

-- ---- words drawn

-- a place with a value for its next dimension
abbrev pub has_next : ℕ → Option Place → Bool
has_next k (Some p) = ltb p.next_dim k
has_next k None = false

-- a trial whose next value is stored
abbrev pub stored_next : Sampler → ℕ → Bool
stored_next s trial = s.active && has_next s.dimensions.count (held_by s.places trial)

-- "a new trial takes the dimension count, or with a model candidates × continuous + choices; a stored value 0; any other 1"
unfoldable pub words_taken : Sampler → Call → ℕ
unfolding new_trial has_model
words_taken s (asks d trial h) =
    cond (new_trial s (asks d trial h)) (cond (has_model s h) (s.settings.n_candidates * continuous s + choices s) s.dimensions.count) (cond (stored_next s trial) 0 1)
words_taken s (closes trial) = 0

-- what the types of a program say: a generator word of 64 bits, arrays of 20 and of 32, and floats that are binary64's
pub record Typed (s : Sampler) : Type 0 where
  pub word : s.word < 2 ^ 64
  pub dimensions : length s.dimensions.list ≡ 20
  pub places : length s.places ≡ 32
  pub held : (j : ℕ) → j < s.dimensions.count → Held (dimension_at s.dimensions.list j).distribution
  pub ends : (j : ℕ) → j < s.dimensions.count → T (fits binary64 (dimension_at s.dimensions.list j).lo) × T (fits binary64 (dimension_at s.dimensions.list j).hi)

-- "Words drawn: the generator's moves in a call, 0 if refused."
pub record WordsDrawn : Type 0 where
  pub moves : (s : Sampler) (c : Call) → (call_of s c).sampler.word ≡ moved_of (drawn_in (call_of s c)) s.word
  pub refused : (s : Sampler) (c : Call) (cause : Refusal) → (call_of s c).answer ≡ Err cause → (drawn_in (call_of s c) ≡ 0) × ((call_of s c).sampler ≡ s)
  pub counts : (s : Sampler) (c : Call) (a : Answer) → Typed s → (call_of s c).answer ≡ Ok a → a.drawn ≡ words_taken s c

-- ---- well-formed samplers

pub record WellFormed : Type 0 where
  -- as made
  pub fresh : (s : Settings) → s.seed < 2 ^ 64 → T (settings_ok s) → Typed (fresh_of s) × T (sampler_ok (fresh_of s))
  -- after a call
  pub call : (s : Sampler) (c : Call) → Typed s → T (sampler_ok s) → Typed (call_of s c).sampler × T (sampler_ok (call_of s c).sampler)
  -- so no call of a run meets 11
  pub run : (s : Settings) → s.seed < 2 ^ 64 → T (settings_ok s) → (cs : List Call) → Along (λ t c. call_number (call_of t c) ≡ 11 → ⊥) (fresh_of s) cs

-- ---- refusals, and what an accepted call does

-- a call is refused with the number of its first cause, and accepted where none holds: "All other input is accepted". So
-- are a sampler's making and a fit
pub record RefusalsTold : Type 0 where
  pub call : (s : Sampler) (c : Call) → Typed s → call_number (call_of s c) ≡ cause_of s c
  pub made : (s : Settings) → number_of (make_of s) ≡ first_cause ((1, not (settings_ok s)) ∷ [])
  pub fit : (x y : List Float) (d : ℕ) (noise : Float) → number_of (fit_of x y d noise) ≡ fit_cause_of x y d noise

-- what is stored is what is received, at every call and along every run
pub record CallsServed : Type 0 where
  pub call : (s : Sampler) (c : Call) → Typed s → ServedRight s c
  pub run : (s : Settings) → s.seed < 2 ^ 64 → T (settings_ok s) → (cs : List Call) → Along ServedRight (fresh_of s) cs
  -- and so are the values of a new trial that are no model's
  pub values : (s : Sampler) (c : Call) → Typed s → RandomStored s c
  pub run_values : (s : Settings) → s.seed < 2 ^ 64 → T (settings_ok s) → (cs : List Call) → Along RandomStored (fresh_of s) cs

-- inside a call with a history that is not refused
pub record NothingRefused : Type 0 where
  -- a fit is refused only with 12 or 13
  pub fit : (s : Sampler) (h : List ℕ) → Typed s → T (sampler_ok s) → check_of s.settings.slots h ≡ Ok tt → T (fit_made s h) → T (eqb (number_of (fit_answer s h)) 0 || eqb (number_of (fit_answer s h)) 12 || eqb (number_of (fit_answer s h)) 13)
  -- a new trial's values are made and in range: no decoding and no draw is refused, nor an exp or ln in it
  pub values : (s : Sampler) (h : List ℕ) → Typed s → T (sampler_ok s) → check_of s.settings.slots h ≡ Ok tt
      → (c : Draw (List ParamValue)) × (compute_candidate_of s.settings s.dimensions.list s.dimensions.count s.word (served_history s h) ≡ Ok c)
      × ((j : ℕ) → j < s.dimensions.count
      → T (in_range (dimension_at s.dimensions.list j).distribution (get_or c.value j empty_value)))
  -- nor is any other draw
  pub random : (s : Sampler) (d : Distribution) → Held d → T (shape_of d) → Typed s → T (sampler_ok s)
      → (r : Draw ParamValue) × (sample_random_of s.word d ≡ Ok r) × T (in_range d r.value)

-- ---- places

pub record PlacesCounted : Type 0 where
  -- one more after an accepted new trial, else as many
  pub sampled : (s : Sampler) (d : Asked) (trial : ℕ) (h : List ℕ) → Typed s
      → taken_count (call_of s (asks d trial h)).sampler.places ≡ taken_count s.places + cond (new_trial s (asks d trial h)) 1 0
  -- one less after an accepted close, else as many
  pub closed : (s : Sampler) (trial : ℕ) → Typed s
      → taken_count (call_of s (closes trial)).sampler.places + cond (is_ok (call_of s (closes trial)).answer) 1 0 ≡ taken_count s.places
  -- 9 exactly when 32 are taken and the trial has none
  pub full : (s : Sampler) (d : Asked) (trial : ℕ) (h : List ℕ) → call_number (call_of s (asks d trial h)) ≡ 9 → (taken_count s.places ≡ 32) × (trial_place s.places trial ≡ 32)
  pub ninth : (s : Sampler) (d : Asked) (r : Distribution) (trial : ℕ) (h : List ℕ)
      → T (sampler_ok s) → read_of d.kind d.low d.high d.log d.stepped d.step ≡ Some r → check_of s.settings.slots h ≡ Ok tt
      → taken_count s.places ≡ 32 → trial_place s.places trial ≡ 32 → call_number (call_of s (asks d trial h)) ≡ 9
