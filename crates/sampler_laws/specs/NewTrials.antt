-- A new trial, its model, the points drawn for it and what it stores, in document 01's words. Nothing here speaks of how the search goes. Definitions only.
use Rattle.std.specs.Prelude.{ℕ, ◌+◌, ◌*◌, ◌-◌, ◌<◌, ◌≡◌, Bool, true, false, not, ◌&&◌, ◌||◌, cond, List, [], T, eqb, leb, length, get_or, replicate, Float, Some, Result, Ok, is_ok}
use Rattle.std.specs.Float.{nan, binary64}
use Rattle.std.specs.Float.Ieee.{of_bits}
use Rattle.refusal.specs.declared.Refusal.{Refusal}
use Rattle.distribution.specs.Shape.{continuous_of}
use Rattle.arith.specs.Lists.{list_of}
use Rattle.rng_util.specs.Draws.{unit_of}
use Rattle.rng_util.specs.Generator.{moved_of, stream_of}
use Rattle.gp_model.specs.declared.Model.{Model}
use Rattle.search.specs.Earliest.{EarliestHighest}
use Rattle.search.specs.Search.{score_of}
use Rattle.history_view.specs.declared.View.{View}
use Rattle.dimensions.specs.Dimensions.{dimension_at, columns_of}
use Rattle.history_view.specs.View.{seen_of}
use Rattle.proposal.specs.Points.{fit_for}
use Rattle.proposal.specs.Values.{DrawnFrom, decode_of}
use Rattle.sampler_state.specs.declared.Place.{Place}
use Rattle.sampler_state.specs.declared.Sampler.{Sampler}
use Rattle.sampler_laws.specs.Runs.{asks, closes, Call, call_of}
use Rattle.sampler_state.specs.State.{stored_at, trial_place, held_by}

-- ---- "a new trial is one without a place that an accepted `sample` call serves, on the call that ends discovery or later"

-- a sampler without dimensions has no discovery trial yet
abbrev pub past_discovery : Sampler → ℕ → Bool
past_discovery s trial = s.active || not (eqb s.dimensions.count 0 || eqb trial s.discovery_trial_id)

abbrev pub accepted : Sampler → Call → Bool
accepted s c = is_ok (call_of s c).answer

unfoldable pub new_trial : Sampler → Call → Bool
new_trial s (asks d trial h) = accepted s (asks d trial h) && past_discovery s trial && eqb (trial_place s.places trial) 32
new_trial s (closes trial) = false

-- ---- "Its model is the fit's answer for that call, none if no fit is made or it is refused."

-- the call that ends discovery "is served with an empty history"
abbrev pub served_history : Sampler → List ℕ → List ℕ
served_history s h = cond s.active h []

abbrev pub view_for : Sampler → List ℕ → View
view_for s h = seen_of s.settings.slots s.settings.n_startup_trials s.dimensions.list s.dimensions.count (served_history s h)

-- new trials "fit a model if a dimension is continuous and rows ≥ start-up"; training data that are not refused have a column for each continuous dimension
abbrev pub fit_made : Sampler → List ℕ → Bool
fit_made s h = (view_for s h).reached && leb 1 (view_for s h).training.d

abbrev pub fit_answer : Sampler → List ℕ → Result Model Refusal
fit_answer s h = fit_for (view_for s h).training s.settings.noise_variance

unfoldable pub has_model : Sampler → List ℕ → Bool
has_model s h = fit_made s h && is_ok (fit_answer s h)

-- ---- "The points drawn are the call's first candidates × continuous words as unit floats, point after point, one float per continuous dimension in order."

abbrev pub continuous : Sampler → ℕ
continuous s = length (columns_of s.dimensions.list s.dimensions.count)

abbrev pub choices : Sampler → ℕ
choices s = s.dimensions.count - continuous s

unfoldable pub point_drawn : Sampler → ℕ → List Float
point_drawn s c = list_of (λ j. unit_of (get_or (stream_of (s.settings.n_candidates * continuous s) s.word) (c * continuous s + j) 0)) (continuous s)

-- ---- what is stored

-- after a call on s the trial has a place, which holds for each continuous dimension of s the decoding of its
-- coordinate: "scales each to the internal bounds as `gp.rs` does, then applies `from_internal`"
pub record Stores (s after : Sampler) (trial : ℕ) (point : List Float) : Type 0 where
  pub place : Place
  pub placed : trial_place after.places trial < 32
  pub held : held_by after.places trial ≡ Some place
  pub decoded : (j : ℕ) → j < s.dimensions.count → T (continuous_of (dimension_at s.dimensions.list j).distribution)
      → decode_of (dimension_at s.dimensions.list j) (get_or point (length (columns_of s.dimensions.list j)) nan) ≡ Ok (stored_at place j)

-- "the earliest drawn for it whose expected improvement under that model is at least that of every other one drawn for it"
pub record BestPoint (s after : Sampler) (trial : ℕ) (m : Model) : Type 0 where
  pub index : ℕ
  pub best : EarliestHighest (λ i. score_of m (point_drawn s i)) s.settings.n_candidates index
  pub stored : Stores s after trial (point_drawn s index)

-- "the decoding of one point: the earliest drawn for it .. With no candidates it is the decoding of all 0.5."
pub record StoresBest (s after : Sampler) (trial : ℕ) (m : Model) : Type 0 where
  pub none : s.settings.n_candidates ≡ 0
      → Stores s after trial (replicate (continuous s) (of_bits binary64 0x3fe0000000000000))
  pub found : 0 < s.settings.n_candidates → BestPoint s after trial m

-- how many continuous dimensions, and how many choices, come before dimension j
abbrev pub columns_before : Sampler → ℕ → ℕ
columns_before s j = length (columns_of s.dimensions.list j)

abbrev pub choices_before : Sampler → ℕ → ℕ
choices_before s j = j - columns_before s j

-- the words of a new trial's point: with a model those of the points drawn, after a refused fit one for each continuous
-- dimension
abbrev pub point_words : Sampler → List ℕ → ℕ
point_words s h = cond (is_ok (fit_answer s h)) (s.settings.n_candidates * continuous s) (continuous s)

-- the trial's place after a call on s holds the values that are no model's
pub record StoresRandom (s after : Sampler) (trial : ℕ) (h : List ℕ) : Type 0 where
  pub place : Place
  pub placed : trial_place after.places trial < 32
  pub held : held_by after.places trial ≡ Some place
  -- where no fit is made: "draw one random value per dimension in order"
  pub random : fit_made s h ≡ false → (j : ℕ) → j < s.dimensions.count → DrawnFrom (moved_of j s.word) (dimension_at s.dimensions.list j).distribution (stored_at place j)
  -- "After a refused fit one unit float per continuous dimension is drawn first"
  pub units : fit_made s h ≡ true → is_ok (fit_answer s h) ≡ false → (j : ℕ) → j < s.dimensions.count → T (continuous_of (dimension_at s.dimensions.list j).distribution)
      → decode_of (dimension_at s.dimensions.list j) (unit_of (moved_of (columns_before s j + 1) s.word)) ≡ Ok (stored_at place j)
  -- "then the choices", in order after the words of the point
  pub categories : fit_made s h ≡ true → (j : ℕ) → j < s.dimensions.count → continuous_of (dimension_at s.dimensions.list j).distribution ≡ false
      → DrawnFrom (moved_of (point_words s h + choices_before s j) s.word) (dimension_at s.dimensions.list j).distribution (stored_at place j)

-- of a call
abbrev pub RandomStored : Sampler → Call → Type 0
RandomStored s (asks d trial h) = T (new_trial s (asks d trial h)) → StoresRandom s (call_of s (asks d trial h)).sampler trial h
RandomStored s (closes trial) = Unit

abbrev pub BestStored : Sampler → Call → Type 0
BestStored s (asks d trial h) = T (new_trial s (asks d trial h)) → T (has_model s h) → (m : Model) → fit_answer s h ≡ Ok m → StoresBest s (call_of s (asks d trial h)).sampler trial m
BestStored s (closes trial) = Unit
