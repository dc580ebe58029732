-- The two calls, `sample` and `close`, as one definition each. `Sampler::sample` of gp.rs is the reference; `close` is added. Definitions only.
use Rattle.std.specs.Prelude.{ℕ, ◌+◌, true, ◌||◌, cond, List, [], eqb, ltb, set, Option, Some, None, Result, Ok, Err}
use Rattle.std.specs.Result.{result_and}
use Rattle.refusal.specs.declared.Refusal.{Refusal}
use Rattle.refusal.specs.declared.Refusal.TheVariants.{Malformed, TooManyDimensions, NoPlace, UnknownTrial, OutOfDomain}
use Rattle.arith.specs.Outcome.{made}
use Rattle.rng_util.specs.declared.Draw.{Draw}
use Rattle.distribution.specs.declared.Distribution.{Distribution}
use Rattle.distribution.specs.declared.ParamValue.{ParamValue}
use Rattle.distribution_words.specs.Words.{read_of}
use Rattle.common.specs.Random.{sample_random_of}
use Rattle.settings.specs.declared.Settings.{Settings}
use Rattle.dimensions.specs.declared.DimensionInfo.{DimensionInfo}
use Rattle.dimensions.specs.Dimensions.{dimension_of}
use Rattle.history_rows.specs.Tests.{check_of}
use Rattle.proposal.specs.Proposal.{compute_candidate_of}
use Rattle.sampler_state.specs.declared.Place.{Place}
use Rattle.sampler_laws.specs.declared.Accepted.{Accepted}
use Rattle.sampler_laws.specs.declared.Sampled.{Sampled}
use Rattle.sampler_laws.specs.declared.Serving.{Serving}
use Rattle.sampler_state.specs.declared.Sampler.{Sampler}
use Rattle.sampler_state.specs.State.{empty_place, trial_place, held_by, spot_for, stored_at, sampler_ok}

-- ---- a sampler with a field or two changed

abbrev pub with_word : Sampler → ℕ → Sampler
with_word s w = record { settings = s.settings; word = w; active = s.active; discovery_trial_id = s.discovery_trial_id; dimensions = s.dimensions; places = s.places }

abbrev pub with_place : Sampler → ℕ → Option Place → Sampler
with_place s i p = record { settings = s.settings; word = s.word; active = s.active; discovery_trial_id = s.discovery_trial_id; dimensions = s.dimensions; places = set s.places i p }

-- discovery ended
abbrev pub activated : Sampler → Sampler
activated s = record { settings = s.settings; word = s.word; active = true; discovery_trial_id = s.discovery_trial_id; dimensions = s.dimensions; places = s.places }

-- one more dimension, for the discovery trial
abbrev pub with_dimension : Sampler → ℕ → Distribution → Sampler
with_dimension s trial d = record { settings = s.settings; word = s.word; active = s.active; discovery_trial_id = trial; dimensions = record { list = set s.dimensions.list s.dimensions.count (dimension_of d); count = s.dimensions.count + 1 }; places = s.places }

-- ---- what a call answers

-- "A refused call returns its number, draws no word and changes nothing it was lent."
abbrev pub refused_of : Sampler → Refusal → Sampled
refused_of s cause = record { answer = Err cause; sampler = s }

abbrev pub answered_of : Sampler → Result Accepted Refusal → Sampled
answered_of s (Ok a) = record { answer = Ok a.answer; sampler = a.sampler }
answered_of s (Err cause) = refused_of s cause

-- a value, and the sampler with the generator's word after it
abbrev pub drawn_of : Sampler → Draw ParamValue → Accepted
drawn_of s r = record { answer = record { value = Some r.value; drawn = r.drawn }; sampler = with_word s r.next }

-- ---- one trial served, without a sampler: what is answered, its place and the generator's word after it

-- the next stored value, for no word; the place moves on by one dimension
abbrev pub next_of : ℕ → Place → Serving
next_of word p =
    let q : Place = record { trial = p.trial; values = p.values; next_dim = p.next_dim + 1 } in
    record { draw = record { value = stored_at p p.next_dim; drawn = 0; next = word }; place = q }

-- "past the last, one random draw each"; the place stays: "Next dimension stops at the count."
abbrev pub past_of : ℕ → Place → Distribution → Result Serving Refusal
past_of word p d = made (λ r. record { draw = r; place = p }) (sample_random_of word d)

-- a new trial: "All values are stored in the trial's place", and the first is answered
abbrev pub stored_of : ℕ → Draw (List ParamValue) → Serving
stored_of trial c =
    let p : Place = record { trial = trial; values = c.value; next_dim = 1 } in
    record { draw = record { value = stored_at p 0; drawn = c.drawn; next = c.next }; place = p }

abbrev pub new_trial_of : Settings → List DimensionInfo → ℕ → ℕ → ℕ → List ℕ → Result Serving Refusal
new_trial_of settings dims k word trial h = made (stored_of trial) (compute_candidate_of settings dims k word h)

-- by the trial's place, which is free where it has none
unfoldable pub serving_of : Settings → List DimensionInfo → ℕ → ℕ → Option Place → Distribution → ℕ → List ℕ → Result Serving Refusal
serving_of settings dims k word (Some p) d trial h = cond (ltb p.next_dim k) (Ok (next_of word p)) (past_of word p d)
serving_of settings dims k word None d trial h = new_trial_of settings dims k word trial h

-- a serving written back: its place as place i, and its word
abbrev pub written_of : Sampler → ℕ → Serving → Accepted
written_of s i r = drawn_of (with_place s i (Some r.place)) r.draw

-- ---- the phases

-- "The first trial number discovers."
unfoldable pub discover_of : Sampler → Distribution → ℕ → Result Accepted Refusal
discover_of s d trial = cond (eqb s.dimensions.count 20) (Err TooManyDimensions) (made (drawn_of (with_dimension s trial d)) (sample_random_of s.word d))

-- a trial of this sampler: how it is served, and where its place is written
abbrev pub serving_for : Sampler → Distribution → ℕ → List ℕ → Result Serving Refusal
serving_for s d trial h =
    serving_of s.settings s.dimensions.list s.dimensions.count s.word (held_by s.places trial) d trial h

abbrev pub spot_of : Sampler → ℕ → ℕ
spot_of s trial = spot_for s.places trial

-- "new trial, 32 places taken": 9
unfoldable pub active_of : Sampler → Distribution → ℕ → List ℕ → Result Accepted Refusal
unfolding serving_of spot_for
active_of s d trial h =
    cond (ltb (spot_of s trial) 32) (made (written_of s (spot_of s trial)) (serving_for s d trial h)) (Err NoPlace)

-- a sampler without dimensions has no discovery trial yet. "Another one ends discovery and is served with an empty history."
unfoldable pub served_of : Sampler → Distribution → ℕ → List ℕ → Result Accepted Refusal
unfolding discover_of active_of
served_of s d trial h =
    cond s.active (active_of s d trial h)
    (cond (eqb s.dimensions.count 0 || eqb trial s.discovery_trial_id) (discover_of s d trial) (active_of (activated s) d trial []))

-- ---- the calls

-- "asked distribution malformed": 2, then the history's number
abbrev pub asked_of : Sampler → Option Distribution → ℕ → List ℕ → Result Accepted Refusal
asked_of s None trial h = Err Malformed
asked_of s (Some d) trial h = result_and (check_of s.settings.slots h) (served_of s d trial h)

unfoldable pub sample_of : Sampler → ℕ → ℕ → ℕ → ℕ → ℕ → ℕ → ℕ → List ℕ → Sampled
unfolding sampler_ok served_of
sample_of s kind low high log stepped step trial h =
    answered_of s (cond (sampler_ok s) (asked_of s (read_of kind low high log stepped step) trial h) (Err OutOfDomain))

-- a trial's place freed: the empty one is written there
abbrev pub freed_of : Sampler → ℕ → Accepted
freed_of s trial =
    let t = with_place s (trial_place s.places trial) empty_place in
    record { answer = record { value = None; drawn = 0 }; sampler = t }

-- "close of a trial without a place": 10
unfoldable pub close_of : Sampler → ℕ → Sampled
unfolding sampler_ok
close_of s trial =
    answered_of s (cond (sampler_ok s) (cond (ltb (trial_place s.places trial) 32) (Ok (freed_of s trial)) (Err UnknownTrial)) (Err OutOfDomain))
