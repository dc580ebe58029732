-- What an accepted call answers, and what it leaves as it was: settings always, and every place but the trial's own.
-- Nothing here speaks of how a new trial's values are made. Definitions only.
use Rattle.std.specs.Prelude.{ℕ, ◌+◌, ◌≤◌, ◌<◌, ◌≡◌, true, false, set, T, Some, None, Ok}
use Rattle.distribution.specs.declared.Distribution.{Distribution}
use Rattle.distribution.specs.declared.ParamValue.{ParamValue}
use Rattle.dimensions.specs.Dimensions.{dimension_of}
use Rattle.proposal.specs.Values.{DrawnFrom}
use Rattle.sampler_state.specs.declared.Place.{Place}
use Rattle.sampler_state.specs.declared.Sampler.{Sampler}
use Rattle.sampler_state.specs.State.{empty_place, place_at, taken, trial_place, held_by, stored_at}
use Rattle.sampler_laws.specs.declared.Answer.{Answer}
use Rattle.sampler_laws.specs.NewTrials.{past_discovery}
use Rattle.sampler_laws.specs.Runs.{Asked, asks, closes, Call, call_of, read_asked}

-- ---- values

-- the value answered is drawn from the distribution asked, at the generator's word
pub record AnswersDraw (s : Sampler) (d : Asked) (a : Answer) : Type 0 where
  pub distribution : Distribution
  pub read : read_asked d ≡ Some distribution
  pub answered : ParamValue
  pub drawn : DrawnFrom s.word distribution answered
  pub value : a.value ≡ Some answered

-- ---- a call in discovery

-- one more dimension, the one asked, stands at the count; phase and places are as they were
pub record InDiscovery (s : Sampler) (d : Asked) (trial : ℕ) (a : Answer) (after : Sampler) : Type 0 where
  pub discovers : past_discovery s trial ≡ false
  pub answers : AnswersDraw s d a
  pub count : after.dimensions.count ≡ s.dimensions.count + 1
  pub dimensions : after.dimensions.list ≡ set s.dimensions.list s.dimensions.count (dimension_of answers.distribution)
  pub discovery_trial : after.discovery_trial_id ≡ trial
  pub active : after.active ≡ s.active
  pub places : after.places ≡ s.places

-- ---- a call past discovery

-- a place of another index, or that another trial has, is as it was
pub record OthersKept (s : Sampler) (trial i : ℕ) (after : Sampler) : Type 0 where
  pub places : (j : ℕ) → (j ≡ i → ⊥) → place_at after.places j ≡ place_at s.places j
  pub trials : (u : ℕ) → (u ≡ trial → ⊥) → held_by after.places u ≡ held_by s.places u

-- dimensions and discovery trial are as they were, and the trial has a place
pub record PastDiscovery (s : Sampler) (trial : ℕ) (after : Sampler) : Type 0 where
  pub past : past_discovery s trial ≡ true
  pub active : after.active ≡ true
  pub dimensions : after.dimensions ≡ s.dimensions
  pub discovery_trial : after.discovery_trial_id ≡ s.discovery_trial_id
  pub placed : trial_place after.places trial < 32
  pub others : OthersKept s trial (trial_place after.places trial) after

-- "All values are stored in the trial's place", "the first free one"; the first of them is answered
pub record NewTrial (s : Sampler) (trial : ℕ) (a : Answer) (after : Sampler) : Type 0 where
  pub none : trial_place s.places trial ≡ 32
  pub place : Place
  pub held : held_by after.places trial ≡ Some place
  pub trial_is : place.trial ≡ trial
  pub next : place.next_dim ≡ 1
  pub value : a.value ≡ Some (stored_at place 0)
  pub free : place_at s.places (trial_place after.places trial) ≡ empty_place
  pub first : (j : ℕ) → j < trial_place after.places trial → T (taken (place_at s.places j))

-- the value at the next dimension of the trial's place is answered, and the place moves on by one dimension
pub record NextValue (s : Sampler) (trial : ℕ) (a : Answer) (after : Sampler) : Type 0 where
  pub before : Place
  pub held_before : held_by s.places trial ≡ Some before
  pub more : before.next_dim < s.dimensions.count
  pub value : a.value ≡ Some (stored_at before before.next_dim)
  pub place : Place
  pub held : held_by after.places trial ≡ Some place
  pub trial_is : place.trial ≡ before.trial
  pub values : place.values ≡ before.values
  pub next : place.next_dim ≡ before.next_dim + 1

-- "past the last, one random draw each. Next dimension stops at the count."
pub record PastLast (s : Sampler) (d : Asked) (trial : ℕ) (a : Answer) (after : Sampler) : Type 0 where
  pub place : Place
  pub held_before : held_by s.places trial ≡ Some place
  pub no_more : s.dimensions.count ≤ place.next_dim
  pub answers : AnswersDraw s d a
  pub held : held_by after.places trial ≡ Some place

-- ---- the calls

pub data SampleServed (s : Sampler) (d : Asked) (trial : ℕ) (a : Answer) (after : Sampler) : Type 0 where
  in_discovery : InDiscovery s d trial a after → SampleServed s d trial a after
  new_trial : PastDiscovery s trial after → NewTrial s trial a after → SampleServed s d trial a after
  next_value : PastDiscovery s trial after → NextValue s trial a after → SampleServed s d trial a after
  past_last : PastDiscovery s trial after → PastLast s d trial a after → SampleServed s d trial a after

-- "it frees a place": the trial has none any more, and nothing else changes
pub record Closed (s : Sampler) (trial : ℕ) (a : Answer) (after : Sampler) : Type 0 where
  pub value : a.value ≡ None
  pub word : after.word ≡ s.word
  pub active : after.active ≡ s.active
  pub dimensions : after.dimensions ≡ s.dimensions
  pub discovery_trial : after.discovery_trial_id ≡ s.discovery_trial_id
  pub placed : trial_place s.places trial < 32
  pub freed : place_at after.places (trial_place s.places trial) ≡ empty_place
  pub none : trial_place after.places trial ≡ 32
  pub others : OthersKept s trial (trial_place s.places trial) after

abbrev pub CallServed : Sampler → Call → Answer → Sampler → Type 0
CallServed s (asks d trial h) a after = SampleServed s d trial a after
CallServed s (closes trial) a after = Closed s trial a after

pub record Served (s : Sampler) (c : Call) (a : Answer) (after : Sampler) : Type 0 where
  pub settings : after.settings ≡ s.settings
  pub call : CallServed s c a after

-- an accepted call
abbrev pub ServedRight : Sampler → Call → Type 0
ServedRight s c = (a : Answer) → (call_of s c).answer ≡ Ok a → Served s c a (call_of s c).sampler
