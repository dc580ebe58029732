-- A text of the code and what it answers, as the definitions of pieces have them. Definitions only.
use Rattle.std.specs.Prelude.{ℕ, List, ◌++◌, length, take, drop, Option, Some, None}
use Rattle.propose_text.specs.declared.text.Taken.{Taken}
use Rattle.propose_text.specs.declared.text.Text.{Text}
use Rattle.text_laws.specs.declared.Step.{Step}
use Rattle.text_laws.specs.Pieces.{Partial, Told, written_for, UpToStep, taken_of}
use Rattle.text_laws.specs.Steps.{Stepped, reading_of, stepped_of}

abbrev pub partial_of : Text → Partial
partial_of t = record { reading = reading_of t.reader t.history; line = take t.len t.line }

-- a step, and the text after it
abbrev pub told_of : Step → Text → Told
told_of s t = record { text = partial_of t; step = Some (stepped_of s t.history) }

abbrev pub stepped_in : Option Step → List ℕ → Option Stepped
stepped_in (Some s) h = Some (stepped_of s h)
stepped_in None h = None

-- what is taken of a piece, and the text after it
abbrev pub taken_in : Taken → Text → UpToStep
taken_in r t = record { text = partial_of t; used = r.used; step = stepped_in r.step t.history }

-- what is written for the first step that a piece makes
abbrev pub written_next : Text → List ℕ → List ℕ
written_next t piece = written_for (taken_of (partial_of t) piece).step

-- bytes put at the front of an array
abbrev pub put_first : List ℕ → List ℕ → List ℕ
put_first bytes before = bytes ++ drop (length bytes) before
