-- "Sampler: settings, generator word, phase, discovery trial number, at most 20 dimensions, 32 progress places (trial, values, next dimension)." Definitions only.
use Rattle.std.specs.Prelude.{ℕ, Bool, true, false, not, ◌&&◌, ◌||◌, cond, List, eqb, leb, ltb, length, get_or, replicate, Option, Some, None, is_some, Result, Ok, Err}
use Rattle.std.specs.Float.{binary64}
use Rattle.std.specs.Float.Ieee.{of_bits}
use Rattle.arith.specs.Lists.{every, place_of, places_of}
use Rattle.refusal.specs.declared.Refusal.{Refusal}
use Rattle.distribution.specs.declared.Distribution.{Distribution}
use Rattle.distribution.specs.declared.ParamValue.{ParamValue}
use Rattle.distribution.specs.Range.{in_range}
use Rattle.dimensions.specs.declared.DimensionInfo.{DimensionInfo}
use Rattle.dimensions.specs.Dimensions.{dimension_at, dimensions_ok}
use Rattle.settings.specs.declared.Settings.{Settings}
use Rattle.settings.specs.Settings.{settings_ok}
use Rattle.dimensions.specs.Empty.{empty_value}
use Rattle.sampler_state.specs.declared.Found.{Found}
use Rattle.sampler_state.specs.declared.Place.{Place}
use Rattle.sampler_state.specs.declared.Sampler.{Sampler}

-- ---- what is written where nothing is

abbrev pub empty_dimension : DimensionInfo
empty_dimension = record { distribution = Distribution.Categorical (record { n_choices = 0 }); lo = of_bits binary64 0; hi = of_bits binary64 0 }

-- a free place
abbrev pub empty_place : Option Place
empty_place = None

-- ---- making one

-- as made from its settings
abbrev pub fresh_of : Settings → Sampler
fresh_of s = record { settings = s; word = s.seed; active = false; discovery_trial_id = 0; dimensions = record { list = replicate 20 empty_dimension; count = 0 }; places = replicate 32 empty_place }

-- "setting out of range": number 1
unfoldable pub make_of : Settings → Result Sampler Refusal
make_of s = cond (settings_ok s) (Ok (fresh_of s)) (Err Refusal.Settings)

-- ---- places

abbrev pub place_at : List (Option Place) → ℕ → Option Place
place_at places i = get_or places i empty_place

abbrev pub taken : Option Place → Bool
taken p = is_some p

abbrev pub holds : ℕ → Option Place → Bool
holds trial (Some p) = eqb p.trial trial
holds trial None = false

-- the place of a trial, and the first free one; 32 where there is none
unfoldable pub trial_place : List (Option Place) → ℕ → ℕ
trial_place places trial = place_of 32 (λ i. holds trial (place_at places i))

unfoldable pub free_place : List (Option Place) → ℕ
free_place places = place_of 32 (λ i. not (taken (place_at places i)))

-- an index below n; none from n on
abbrev pub index_below : ℕ → ℕ → Option ℕ
index_below n i = cond (ltb i n) (Some i) None

-- what the place of a trial holds
abbrev pub held_by : List (Option Place) → ℕ → Option Place
held_by places trial = place_at places (trial_place places trial)

-- where a trial's place is written: its own, else the first free one; 32 where there is neither
unfoldable pub spot_for : List (Option Place) → ℕ → ℕ
spot_for places trial = cond (ltb (trial_place places trial) 32) (trial_place places trial) (free_place places)

-- none where there is no room
abbrev pub found_for : List (Option Place) → ℕ → Option Found
found_for places trial = cond (ltb (spot_for places trial) 32) (Some (record { place = held_by places trial; spot = spot_for places trial })) None

-- how many are taken
unfoldable pub taken_count : List (Option Place) → ℕ
taken_count places = length (places_of 32 (λ i. taken (place_at places i)))

-- ---- "One handed in with a field out of range, bounds not its distribution's, no dimension when active or a trial twice is refused first, with 11."

abbrev pub stored_at : Place → ℕ → ParamValue
stored_at p j = get_or p.values j empty_value

-- a next dimension from 1 to the count, and a value in range for each dimension
abbrev pub progress_ok : List DimensionInfo → ℕ → Place → Bool
progress_ok dims k p =
    leb 1 p.next_dim && leb p.next_dim k
    && every k (λ j. in_range (dimension_at dims j).distribution (stored_at p j))

-- free, or of an active sampler and so far in its dimensions
unfoldable pub place_ok : Bool → List DimensionInfo → ℕ → Option Place → Bool
place_ok active dims k (Some p) = active && progress_ok dims k p
place_ok active dims k None = true

-- a place that the trial of another has
abbrev pub same_trial : Option Place → Option Place → Bool
same_trial (Some p) q = holds p.trial q
same_trial None q = false

unfoldable pub trials_once : List (Option Place) → Bool
trials_once places = every 32 (λ a. every a (λ b. not (same_trial (place_at places b) (place_at places a))))

unfoldable pub sampler_ok : Sampler → Bool
unfolding place_ok trials_once
sampler_ok s =
    settings_ok s.settings && not (eqb s.word 0) && dimensions_ok s.dimensions.list s.dimensions.count && (not s.active || leb 1 s.dimensions.count)
    && every 32 (λ i. place_ok s.active s.dimensions.list s.dimensions.count (place_at s.places i)) && trials_once s.places
