-- A text that comes in pieces: what each byte does, and what is written for a piece and at the end. Definitions only.
use Rattle.std.specs.Prelude.{ℕ, suc, Bool, true, false, cond, List, [], ◌∷◌, ◌++◌, eqb, leb, length, Option, Some, None}
use Rattle.refusal.specs.declared.Refusal.{Refusal}
use Rattle.text_laws.specs.declared.Stage.{Stage}
use Rattle.text_laws.specs.Steps.{Reading, Stepped, ends, start_of, step_of, finish_of}

-- a text read so far: where it stands, and the bytes of the line whose end is not read yet
pub record Partial : Type 0 where
  pub reading : Reading
  pub line : List ℕ

abbrev pub begun : Partial
begun = record { reading = start_of; line = [] }

-- bytes more of its line
abbrev pub longer : Partial → List ℕ → Partial
longer t bytes = record { reading = t.reading; line = t.line ++ bytes }

-- the end of its line
abbrev pub line_end : Partial → Stepped
line_end t = step_of t.reading t.line

-- the end of the input
abbrev pub end_of : Partial → Stepped
end_of t = finish_of t.reading t.line

abbrev pub has_ended : Stage → Bool
has_ended Stage.SettingsNames = false
has_ended Stage.Settings = false
has_ended Stage.HistoryNames = false
has_ended Stage.History = false
has_ended Stage.Calls = false
has_ended Stage.Ended = true

-- ---- a byte

-- after a byte, or at the end: the text, and the step, where it makes one
pub record Told : Type 0 where
  pub text : Partial
  pub step : Option Stepped

-- a step, after which a new line begins
abbrev pub told_step : Stepped → Told
told_step s = record { text = record { reading = s.reading; line = [] }; step = Some s }

abbrev pub no_step : Partial → Told
no_step t = record { text = t; step = None }

-- A run that has ended takes no notice of a byte. A newline ends its line. A line that would get longer than any
-- table's, which is a row of 20 slots, 163 words in 2,770 bytes, ends the run at once. Any other byte is one more of
-- its line.
unfoldable pub byte_of : Partial → ℕ → Told
byte_of t b =
    cond (has_ended t.reading.stage) (no_step t)
    (cond (eqb b 10) (told_step (line_end t))
    (cond (leb 2770 (length t.line)) (told_step (ends Refusal.Text t.reading))
    (no_step (longer t (b ∷ [])))))

-- ---- a piece

-- what is written for a step, where there is one
abbrev pub written_for : Option Stepped → List ℕ
written_for (Some s) = s.written
written_for None = []

-- after a piece: the text, and what is written for it
pub record Pieced : Type 0 where
  pub text : Partial
  pub written : List ℕ

-- byte after byte
unfoldable pub piece_of : Partial → List ℕ → Pieced
unfolding byte_of
piece_of t [] = record { text = t; written = [] }
piece_of t (b ∷ rest) =
    record {
      text = (piece_of (byte_of t b).text rest).text;
      written = written_for (byte_of t b).step ++ (piece_of (byte_of t b).text rest).written;
    }

-- piece after piece
unfoldable pub pieces_of : Partial → List (List ℕ) → Pieced
unfolding piece_of
pieces_of t [] = record { text = t; written = [] }
pieces_of t (p ∷ rest) =
    record {
      text = (pieces_of (piece_of t p).text rest).text;
      written = (piece_of t p).written ++ (pieces_of (piece_of t p).text rest).written;
    }

-- ---- up to the next step

-- the text after it, how many bytes that is, and the step; where no byte makes one: all of them, and none
pub record UpToStep : Type 0 where
  pub text : Partial
  pub used : ℕ
  pub step : Option Stepped

abbrev pub taken_from : Option Stepped → Partial → UpToStep → UpToStep
taken_from (Some s) t later = record { text = t; used = 1; step = Some s }
taken_from None t later = record { text = later.text; used = suc later.used; step = later.step }

unfoldable pub taken_of : Partial → List ℕ → UpToStep
unfolding byte_of
taken_of t [] = record { text = t; used = 0; step = None }
taken_of t (b ∷ rest) = taken_from (byte_of t b).step (byte_of t b).text (taken_of (byte_of t b).text rest)
