-- Runs of calls, and two runs whose histories agree. Definitions only.
use Rattle.refusal.specs.Numbers.{number_of}
use Rattle.std.specs.Prelude.{ℕ, ◌+◌, List, [], ◌∷◌, Option, Result, Ok, Err}
use Rattle.refusal.specs.declared.Refusal.{Refusal}
use Rattle.distribution.specs.declared.Distribution.{Distribution}
use Rattle.distribution_words.specs.Words.{read_of}
use Rattle.history_view.specs.Agree.{Agree}
use Rattle.sampler_laws.specs.declared.Answer.{Answer}
use Rattle.sampler_laws.specs.declared.Sampled.{Sampled}
use Rattle.sampler_state.specs.declared.Sampler.{Sampler}
use Rattle.sampler_laws.specs.Calls.{sample_of, close_of}

-- six words asked, as one list of arguments
pub record Asked : Type 0 where
  pub kind : ℕ
  pub low : ℕ
  pub high : ℕ
  pub log : ℕ
  pub stepped : ℕ
  pub step : ℕ

-- the distribution that they are, where they are well-formed
abbrev pub read_asked : Asked → Option Distribution
read_asked d = read_of d.kind d.low d.high d.log d.stepped d.step

-- a call: a distribution asked for a trial with a history, or a trial closed
pub data Call : Type 0 where
  asks : Asked → ℕ → List ℕ → Call
  closes : ℕ → Call

abbrev pub call_of : Sampler → Call → Sampled
call_of s (asks d trial h) = sample_of s d.kind d.low d.high d.log d.stepped d.step trial h
call_of s (closes trial) = close_of s trial

-- document 01's number of a call, 0 where it is accepted
abbrev pub call_number : Sampled → ℕ
call_number r = number_of r.answer

-- the words that a call draws, 0 where it is refused
abbrev pub words_in : Result Answer Refusal → ℕ
words_in (Ok a) = a.drawn
words_in (Err cause) = 0

abbrev pub drawn_in : Sampled → ℕ
drawn_in r = words_in r.answer

-- "Each call gets the sampler that the one before handed back"
unfoldable pub answers_of : Sampler → List Call → List (Result Answer Refusal)
answers_of s [] = []
answers_of s (c ∷ cs) = (call_of s c).answer ∷ answers_of (call_of s c).sampler cs

unfoldable pub end_of : Sampler → List Call → Sampler
end_of s [] = s
end_of s (c ∷ cs) = end_of (call_of s c).sampler cs

-- "The runs differ only in the histories .. at each sample call the two agree"
pub data Alike (n startup : ℕ) : List Call → List Call → Type 0 where
  alike-none : Alike n startup [] []
  alike-asks : (d : Asked) (trial : ℕ) (g h : List ℕ) {cs ds : List Call} → Agree n startup g h → Alike n startup cs ds → Alike n startup (asks d trial g ∷ cs) (asks d trial h ∷ ds)
  alike-closes : (trial : ℕ) {cs ds : List Call} → Alike n startup cs ds → Alike n startup (closes trial ∷ cs) (closes trial ∷ ds)

-- the same call with another history, and the same calls each with its own
abbrev pub with_history : List ℕ → Call → Call
with_history h (asks d trial g) = asks d trial h
with_history h (closes trial) = closes trial

unfoldable pub with_histories : (ℕ → List ℕ) → List Call → List Call
with_histories h [] = []
with_histories h (c ∷ cs) = with_history (h 0) c ∷ with_histories (λ i. h (i + 1)) cs

-- each call of a run, on the sampler that it gets
unfoldable pub Along : (Sampler → Call → Type 0) → Sampler → List Call → Type 0
Along P s [] = Unit
Along P s (c ∷ cs) = P s c × Along P (call_of s c).sampler cs
