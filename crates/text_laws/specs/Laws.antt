-- What is promised of every text. Statements only.
use Rattle.std.specs.Prelude.{ℕ, ◌<◌, ◌≡◌, false, List, [], ◌++◌, length}
use Rattle.refusal.specs.declared.Refusal.{Refusal}
use Rattle.settings.specs.Settings.{settings_ok}
use Rattle.text_laws.specs.declared.Stage.{Stage}
use Rattle.propose_lines.specs.Lines.{answer_line}
use Rattle.propose_lines.specs.Names.{answer_names}
use Rattle.text_laws.specs.Steps.{Reading, settings_of, ends, step_of}
use Rattle.text_laws.specs.Texts.{Document, WellFormed, Words, ended, line_of, joined, head_of, text_of, answers_to, written_of}
use Rattle.text_laws.specs.Pieces.{begun, pieces_of, end_of}

-- something that does not go on with a call line
pub record NoCall (rest : List ℕ) : Type 0 where
  pub some : rest ≡ [] → ⊥
  pub none : (ws more : List ℕ) → Words 7 ws → rest ≡ ended (line_of ws) ++ more → ⊥

-- every text is one of these four
pub record TextAnswers : Type 0 where
  -- a well-formed text: the answers of the run of its calls
  pub whole : (d : Document) → WellFormed d → written_of (text_of d) ≡ ended answer_names ++ answers_to d
  -- malformed once the calls have begun: the answers of the calls before it, then 14
  pub after : (d : Document) (rest : List ℕ) → WellFormed d → NoCall rest → written_of (text_of d ++ rest) ≡ ended answer_names ++ (answers_to d ++ answer_line 0 0 14 0)
  -- a setting out of range: 1, whatever follows
  pub refused : (ws rest : List ℕ) → Words 5 ws → settings_ok (settings_of ws) ≡ false → written_of (head_of ws ++ rest) ≡ ended answer_names ++ answer_line 0 0 1 0
  -- malformed before the calls begin, which is any other text: 14
  pub before : (text : List ℕ)
      → ((d : Document) (rest : List ℕ) → WellFormed d → text ≡ text_of d ++ rest → ⊥)
      → ((ws rest : List ℕ) → Words 5 ws → settings_ok (settings_of ws) ≡ false → text ≡ head_of ws ++ rest → ⊥)
      → written_of text ≡ ended answer_names ++ answer_line 0 0 14 0

-- a line that is longer than any of the three tables has is 14 before its end is read
abbrev pub LongLines : Type 0
LongLines = (r : Reading) (line : List ℕ) → (r.stage ≡ Stage.Ended → ⊥) → 2770 < length line → step_of r line ≡ ends Refusal.Text r

-- whatever pieces a text comes in: what is written first, piece by piece and at the end is what is written for the
-- pieces joined
abbrev pub PiecesAnswered : Type 0
PiecesAnswered = (pieces : List (List ℕ)) → ended answer_names ++ ((pieces_of begun pieces).written ++ (end_of (pieces_of begun pieces).text).written) ≡ written_of (joined pieces)
