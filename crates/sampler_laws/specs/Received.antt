-- "From a fresh sampler, every float that weavers receive then lies between low and high of the distribution it was
-- drawn or decoded for."
-- Which distribution that is, is told along a run, and never by the value. Definitions and statements only.
use Rattle.std.specs.Prelude.{ℕ, ◌^◌, ◌<◌, ◌≡◌, ◌&&◌, cond, List, [], ◌∷◌, T, eqb, slice_get, Float}
use Rattle.std.specs.Prelude.{Option, Some, None, Ok}
use Rattle.std.specs.Float.Ieee.{le}
use Rattle.arith.specs.Lists.{list_of}
use Rattle.distribution.specs.Numbers.{FloatDistribution}
use Rattle.distribution.specs.declared.Distribution.{Distribution}
use Rattle.distribution.specs.declared.ParamValue.{ParamValue}
use Rattle.distribution.specs.Range.{in_range}
use Rattle.dimensions.specs.declared.DimensionInfo.{DimensionInfo}
use Rattle.dimensions.specs.Dimensions.{dimension_at, dimension_ok}
use Rattle.settings.specs.declared.Settings.{Settings}
use Rattle.settings.specs.Settings.{settings_ok}
use Rattle.rng_util.specs.Draws.{unit_of}
use Rattle.proposal.specs.Values.{DrawnFrom, decode_of}
use Rattle.sampler_state.specs.declared.Place.{Place}
use Rattle.sampler_state.specs.declared.Sampler.{Sampler}
use Rattle.sampler_state.specs.State.{fresh_of, held_by, stored_at, sampler_ok}
use Rattle.sampler_laws.specs.declared.Answer.{Answer}
use Rattle.sampler_laws.specs.Laws.{Typed, stored_next}
use Rattle.sampler_laws.specs.NewTrials.{new_trial}
use Rattle.sampler_laws.specs.Runs.{asks, closes, Call, call_of, read_asked}

-- ---- the distribution that a value was drawn or decoded for

-- of each trial the distributions that were in force when it was opened, in the order of the dimensions
abbrev pub Noted : Type 0
Noted = ℕ → List Distribution

abbrev pub in_force : Sampler → List Distribution
in_force s = list_of (λ j. (dimension_at s.dimensions.list j).distribution) s.dimensions.count

-- a new trial is noted with them, until it is new again
abbrev pub noted_of : Noted → Sampler → Call → Noted
noted_of m s (asks d trial h) = λ t. cond (new_trial s (asks d trial h) && eqb t trial) (in_force s) (m t)
noted_of m s (closes trial) = m

-- what a trial's next stored value was made for
abbrev pub next_noted : List Distribution → Option Place → Option Distribution
next_noted ds (Some p) = slice_get ds p.next_dim
next_noted ds None = None

-- a new trial is answered its first dimension's value, and a trial with values left its next stored one, whatever is
-- asked; in discovery, and "past the last, one random draw each", it is the distribution asked
unfoldable pub served_for : Noted → Sampler → Call → Option Distribution
unfolding new_trial
served_for m s (asks d trial h) =
    cond (new_trial s (asks d trial h)) (slice_get (in_force s) 0)
    (cond (stored_next s trial) (next_noted (m trial) (held_by s.places trial)) (read_asked d))
served_for m s (closes trial) = None

-- ---- what holds of a value and its distribution

abbrev pub Holding : Type 1
Holding = Distribution → ParamValue → Type 0

abbrev pub InRange : Holding
InRange d v = T (in_range d v)

-- "the distribution it was drawn or decoded for": a draw from it at a generator word, or the decoding of a word's unit
-- float for a dimension that has it (0.5 is the unit float of 2 ^ 63)
pub data MadeFor (d : Distribution) (v : ParamValue) : Type 0 where
  drawn : (w : ℕ) → w < 2 ^ 64 → DrawnFrom w d v → MadeFor d v
  decoded : (i : DimensionInfo) → i.distribution ≡ d → T (dimension_ok i)
      → (w : ℕ) → w < 2 ^ 64 → decode_of i (unit_of w) ≡ Ok v → MadeFor d v

-- P holds of an answered value and the distribution that it is served for
pub record ReceivedFor (P : Holding) (m : Noted) (s : Sampler) (c : Call) (v : ParamValue) : Type 0 where
  pub distribution : Distribution
  pub served : served_for m s c ≡ Some distribution
  pub holds : P distribution v

abbrev pub Receives : Holding → Noted → Sampler → Call → Type 0
Receives P m s c =
    (a : Answer) → (call_of s c).answer ≡ Ok a
    → (v : ParamValue) → a.value ≡ Some v → ReceivedFor P m s c v

-- an answered float lies between its low and high
pub record FloatReceived (m : Noted) (s : Sampler) (c : Call) (v : Float) : Type 0 where
  pub distribution : FloatDistribution
  pub served : served_for m s c ≡ Some (Distribution.Float distribution)
  pub low : T (le distribution.low v)
  pub high : T (le v distribution.high)

abbrev pub FloatBetween : Noted → Sampler → Call → Type 0
FloatBetween m s c =
    (a : Answer) → (call_of s c).answer ≡ Ok a
    → (v : Float) → a.value ≡ Some (ParamValue.Float v) → FloatReceived m s c v

-- of each call of a run, the memory going on as the sampler does
unfoldable pub AlongNoted : (Noted → Sampler → Call → Type 0) → Noted → Sampler → List Call → Type 0
AlongNoted P m s [] = Unit
AlongNoted P m s (c ∷ cs) = P m s c × AlongNoted P (noted_of m s c) (call_of s c).sampler cs

-- ---- what is noted for the values that are stored

-- P holds of value j of a place and the distribution noted for it
pub record NotedFor (P : Holding) (ds : List Distribution) (p : Place) (j : ℕ) : Type 0 where
  pub distribution : Distribution
  pub noted : slice_get ds j ≡ Some distribution
  pub holds : P distribution (stored_at p j)

abbrev pub Kept : Holding → Noted → Sampler → Type 0
Kept P m s =
    (trial : ℕ) (p : Place) → held_by s.places trial ≡ Some p
    → (j : ℕ) → j < s.dimensions.count → NotedFor P (m trial) p j

-- ---- the law

-- along every run: "From a fresh sampler", whatever was noted before
abbrev pub AlongRuns : (Noted → Sampler → Call → Type 0) → Type 0
AlongRuns P =
    (m : Noted) (s : Settings) → s.seed < 2 ^ 64 → T (settings_ok s) → (cs : List Call) → AlongNoted P m (fresh_of s) cs

pub record Received : Type 0 where
  -- at every call on a well-formed sampler, whose values are in range of what is noted for them
  pub call : (m : Noted) (s : Sampler) (c : Call) → Typed s → T (sampler_ok s) → Kept InRange m s
      → Receives InRange m s c × Kept InRange (noted_of m s c) (call_of s c).sampler
  -- the value answered is in range of the distribution that it is served for, is drawn or decoded for it, and a float
  -- lies between its low and high
  pub run : AlongRuns (Receives InRange)
  pub made : AlongRuns (Receives MadeFor)
  pub floats : AlongRuns FloatBetween
  -- in range also from every well-formed sampler, each of whose trials is noted with its dimensions
  pub handed_in : (s : Sampler) → Typed s → T (sampler_ok s) → (cs : List Call)
      → Kept InRange (λ t. in_force s) s × AlongNoted (Receives InRange) (λ t. in_force s) s cs
