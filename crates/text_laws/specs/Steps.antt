-- The three tables, line by line. "Lines are judged in order as read." Definitions only.
use Rattle.std.specs.Prelude.{ℕ, ◌+◌, ◌*◌, Bool, ◌&&◌, cond, List, [], ◌++◌, eqb, leb, length, get_or, take, Option, Some, None, Result, Ok, Err}
use Rattle.std.specs.Float.{binary64}
use Rattle.std.specs.Float.Ieee.{of_bits}
use Rattle.refusal.specs.declared.Refusal.{Refusal}
use Rattle.refusal.specs.Numbers.{cause_number}
use Rattle.distribution.specs.declared.ParamValue.{ParamValue}
use Rattle.distribution.specs.Value.{kind_of, word_of}
use Rattle.settings.specs.declared.Settings.{Settings}
use Rattle.settings.specs.Settings.{new_of}
use Rattle.sampler_laws.specs.declared.Answer.{Answer}
use Rattle.sampler_laws.specs.declared.Sampled.{Sampled}
use Rattle.sampler_state.specs.declared.Sampler.{Sampler}
use Rattle.sampler_laws.specs.Calls.{sample_of}
use Rattle.sampler_state.specs.State.{fresh_of, make_of}
use Rattle.text_laws.specs.declared.Event.{Event}
use Rattle.text_laws.specs.declared.Reader.{Reader}
use Rattle.text_laws.specs.declared.Stage.{Stage}
use Rattle.text_laws.specs.declared.Step.{Step}
use Rattle.propose_lines.specs.Lines.{is_words, words_in, answer_line}
use Rattle.propose_lines.specs.Names.{settings_names, history_names, call_names, same_bytes}

-- ---- between two lines

-- the line that is awaited, the sampler as it is then, and the history's words so far
pub record Reading : Type 0 where
  pub stage : Stage
  pub sampler : Sampler
  pub history : List ℕ

-- after a line: what it was, and what is written for it
pub record Stepped : Type 0 where
  pub reading : Reading
  pub event : Event
  pub written : List ℕ

-- a reader of the code with the array that holds the history
abbrev pub reading_of : Reader → List ℕ → Reading
reading_of r h = record { stage = r.stage; sampler = r.sampler; history = take r.count h }

-- the line to write, or nothing
abbrev pub written_in : Option (List ℕ) → List ℕ
written_in (Some line) = line
written_in None = []

abbrev pub stepped_of : Step → List ℕ → Stepped
stepped_of t h = record { reading = reading_of t.reader h; event = t.event; written = written_in t.line }

-- ---- ways to go on

-- another line is awaited, and nothing is written
abbrev pub awaits : Stage → Event → Reading → Stepped
awaits s e r = record { reading = record { stage = s; sampler = r.sampler; history = r.history }; event = e; written = [] }

-- "Numbers 1 and 14 print trial 0 and end the run."
abbrev pub ends : Refusal → Reading → Stepped
ends e r = record { reading = record { stage = Stage.Ended; sampler = r.sampler; history = r.history }; event = Event.Refused e; written = answer_line 0 0 (cause_number e) 0 }

-- a names line
abbrev pub named : Bool → Stage → Reading → Stepped
named ok s r = cond ok (awaits s Event.Names r) (ends Refusal.Text r)

-- ---- the lines

abbrev pub settings_of : List ℕ → Settings
settings_of ws =
    record { n_startup_trials = get_or ws 0 0; n_candidates = get_or ws 1 0; noise_variance = of_bits binary64 (get_or ws 2 0); seed = get_or ws 3 0; slots = get_or ws 4 0 }

abbrev pub made_of : Result Sampler Refusal → Reading → Stepped
made_of (Ok s) r = record { reading = record { stage = Stage.HistoryNames; sampler = s; history = r.history }; event = Event.Settings; written = [] }
made_of (Err e) r = ends e r

-- "Settings (one line)": malformed text is 14, a setting out of range 1
unfoldable pub settings_line : Reading → List ℕ → Stepped
settings_line r line = cond (is_words 5 line) (made_of (make_of (settings_of (words_in 5 line))) r) (ends Refusal.Text r)

-- a sampler that is made has 1 to 20 slots
abbrev pub slots_of : Sampler → ℕ
slots_of s = s.settings.slots

abbrev pub history_named : Sampler → List ℕ → Bool
history_named s line = leb (slots_of s) 20 && same_bytes line (history_names (slots_of s))

-- "rows of 3 + 8n words"
abbrev pub row_words : ℕ → ℕ
row_words n = 3 + 8 * n

-- a row; the one that takes the history over 8,192 words is 14
unfoldable pub row_line : Reading → List ℕ → Stepped
row_line r line =
    cond (leb (slots_of r.sampler) 20 && leb (length r.history + row_words (slots_of r.sampler)) 8192 && is_words (row_words (slots_of r.sampler)) line)
    (record { reading = record { stage = Stage.History; sampler = r.sampler; history = r.history ++ words_in (row_words (slots_of r.sampler)) line }; event = Event.Row; written = [] })
    (ends Refusal.Text r)

-- "After the history, a line of seven names starts the calls."
unfoldable pub history_line : Reading → List ℕ → Stepped
unfolding row_line
history_line r line = cond (same_bytes line call_names) (awaits Stage.Calls Event.CallsBegin r) (row_line r line)

abbrev pub sampled_of : Reading → List ℕ → Sampled
sampled_of r ws = sample_of r.sampler (get_or ws 1 0) (get_or ws 2 0) (get_or ws 3 0) (get_or ws 4 0) (get_or ws 5 0) (get_or ws 6 0) (get_or ws 0 0) r.history

-- "trial, value kind, value, words drawn": a close has no value, and prints 0 and 0
abbrev pub value_line : ℕ → Option ParamValue → ℕ → List ℕ
value_line trial (Some v) drawn = answer_line trial (kind_of v) (word_of v) drawn
value_line trial None drawn = answer_line trial 0 0 drawn

-- "A refused call prints its trial, 0, the number, 0."
abbrev pub told_line : ℕ → Result Answer Refusal → List ℕ
told_line trial (Ok a) = value_line trial a.value a.drawn
told_line trial (Err e) = answer_line trial 0 (cause_number e) 0

abbrev pub answered_of : ℕ → Sampled → Reading → Stepped
answered_of trial a r =
    record { reading = record { stage = Stage.Calls; sampler = a.sampler; history = r.history }; event = Event.Call trial; written = told_line trial a.answer }

unfoldable pub call_line : Reading → List ℕ → Stepped
call_line r line = cond (is_words 7 line) (answered_of (get_or (words_in 7 line) 0 0) (sampled_of r (words_in 7 line)) r) (ends Refusal.Text r)

abbrev pub line_at : Stage → Reading → List ℕ → Stepped
line_at Stage.SettingsNames r line = named (same_bytes line settings_names) Stage.Settings r
line_at Stage.Settings r line = settings_line r line
line_at Stage.HistoryNames r line = named (history_named r.sampler line) Stage.History r
line_at Stage.History r line = history_line r line
line_at Stage.Calls r line = call_line r line
line_at Stage.Ended r line = awaits Stage.Ended Event.Nothing r

-- ---- what a reader does

-- no settings are read yet: "Defaults belong to the settings themselves", and the seed, which "has none", is 0
abbrev pub no_sampler : Sampler
no_sampler = fresh_of (new_of 0)

unfoldable pub start_of : Reading
start_of = record { stage = Stage.SettingsNames; sampler = no_sampler; history = [] }

-- one line, without its newline
unfoldable pub step_of : Reading → List ℕ → Stepped
unfolding settings_line history_line call_line
step_of r line = line_at r.stage r line

-- the input's end, with what stands after its last newline: 14 unless the calls have begun and every line is whole
abbrev pub finish_at : Stage → Reading → List ℕ → Stepped
finish_at Stage.SettingsNames r rest = ends Refusal.Text r
finish_at Stage.Settings r rest = ends Refusal.Text r
finish_at Stage.HistoryNames r rest = ends Refusal.Text r
finish_at Stage.History r rest = ends Refusal.Text r
finish_at Stage.Calls r rest = cond (eqb (length rest) 0) (awaits Stage.Ended Event.Nothing r) (ends Refusal.Text r)
finish_at Stage.Ended r rest = awaits Stage.Ended Event.Nothing r

unfoldable pub finish_of : Reading → List ℕ → Stepped
finish_of r rest = finish_at r.stage r rest
