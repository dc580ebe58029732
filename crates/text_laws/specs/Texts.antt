-- Whole texts: how one is read, which are well-formed, and what is answered. Definitions only.
use Rattle.std.specs.Prelude.{ℕ, ◌^◌, ◌≤◌, ◌<◌, ◌≡◌, true, cond, List, [], ◌∷◌, ◌++◌, eqb, length, get_or, Result}
use Rattle.word_text.specs.Digits.{digits_of}
use Rattle.refusal.specs.declared.Refusal.{Refusal}
use Rattle.settings.specs.Settings.{settings_ok}
use Rattle.sampler_laws.specs.declared.Answer.{Answer}
use Rattle.sampler_laws.specs.Runs.{Call, asks, answers_of}
use Rattle.sampler_state.specs.State.{fresh_of}
use Rattle.propose_lines.specs.Names.{settings_names, history_names, call_names, answer_names}
use Rattle.text_laws.specs.Steps.{Reading, settings_of, row_words, told_line, start_of, step_of, finish_of}

-- ---- how a text is read: byte by byte, a line at each newline, whatever pieces it comes in

-- what is written from here on, with the bytes of a line so far
unfoldable pub read_of : Reading → List ℕ → List ℕ → List ℕ
read_of r line [] = (finish_of r line).written
read_of r line (b ∷ rest) = cond (eqb b 10) ((step_of r line).written ++ read_of (step_of r line).reading [] rest) (read_of r (line ++ (b ∷ [])) rest)

-- "newline after each line"
abbrev pub ended : List ℕ → List ℕ
ended line = line ++ (10 ∷ [])

-- "The names line always comes first."
unfoldable pub written_of : List ℕ → List ℕ
unfolding read_of
written_of text = ended answer_names ++ read_of start_of [] text

-- ---- well-formed texts

-- "words are 16 lower-case hexadecimal digits, one space between"
unfoldable pub line_of : List ℕ → List ℕ
line_of [] = []
line_of (w ∷ []) = digits_of w
line_of (w ∷ v ∷ ws) = digits_of w ++ (32 ∷ line_of (v ∷ ws))

unfoldable pub lines_of : List (List ℕ) → List ℕ
unfolding line_of
lines_of [] = []
lines_of (ws ∷ rest) = ended (line_of ws) ++ lines_of rest

-- each of 64 bits
unfoldable pub Sized : List ℕ → Type 0
Sized [] = Unit
Sized (w ∷ ws) = (w < 2 ^ 64) × Sized ws

-- k words, one at least
pub record Words (k : ℕ) (ws : List ℕ) : Type 0 where
  pub some : 1 ≤ k
  pub count : length ws ≡ k
  pub sized : Sized ws

-- lines of k words each
unfoldable pub Table : ℕ → List (List ℕ) → Type 0
Table k [] = Unit
Table k (ws ∷ rest) = Words k ws × Table k rest

unfoldable pub joined : List (List ℕ) → List ℕ
joined [] = []
joined (ws ∷ rest) = ws ++ joined rest

-- the words of the three tables
pub record Document : Type 0 where
  pub settings : List ℕ
  pub rows : List (List ℕ)
  pub calls : List (List ℕ)

abbrev pub slots_in : Document → ℕ
slots_in d = (settings_of d.settings).slots

-- settings in range, "rows of 3 + 8n words", at most 8,192 in all, and calls of seven
pub record WellFormed (d : Document) : Type 0 where
  pub settings : Words 5 d.settings
  pub in_range : settings_ok (settings_of d.settings) ≡ true
  pub rows : Table (row_words (slots_in d)) d.rows
  pub room : length (joined d.rows) ≤ 8192
  pub calls : Table 7 d.calls

abbrev pub head_of : List ℕ → List ℕ
head_of settings = ended settings_names ++ ended (line_of settings)

unfoldable pub text_of : Document → List ℕ
unfolding line_of lines_of
text_of d = head_of d.settings ++ (ended (history_names (slots_in d)) ++ (lines_of d.rows ++ (ended call_names ++ lines_of d.calls)))

-- ---- what is answered

-- the calls, each with the history
unfoldable pub calls_of : List ℕ → List (List ℕ) → List Call
calls_of h [] = []
calls_of h (ws ∷ rest) =
    asks (record { kind = get_or ws 1 0; low = get_or ws 2 0; high = get_or ws 3 0; log = get_or ws 4 0; stepped = get_or ws 5 0; step = get_or ws 6 0 }) (get_or ws 0 0) h ∷ calls_of h rest

-- a line for each call and its answer
unfoldable pub answer_lines : List (List ℕ) → List (Result Answer Refusal) → List ℕ
answer_lines [] answers = []
answer_lines (ws ∷ rest) [] = []
answer_lines (ws ∷ rest) (a ∷ answers) = told_line (get_or ws 0 0) a ++ answer_lines rest answers

-- the answers of the run of its calls
unfoldable pub answers_to : Document → List ℕ
unfolding calls_of answer_lines joined
answers_to d = answer_lines d.calls (answers_of (fresh_of (settings_of d.settings)) (calls_of (joined d.rows) d.calls))
