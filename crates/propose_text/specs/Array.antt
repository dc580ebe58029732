-- The array that holds the history, after a line. Definitions only.
use Rattle.std.specs.Prelude.{ℕ, ◌+◌, ◌&&◌, cond, List, leb, length}
use Rattle.propose_lines.specs.Names.{call_names, same_bytes}
use Rattle.propose_lines.specs.Stored.{stored_of, laid_out}
use Rattle.text_laws.specs.declared.Stage.{Stage}
use Rattle.text_laws.specs.Steps.{Reading, slots_of, row_words}

-- A line with the length and the spaces of a row, where there is room for one, has its words stored behind the
-- history's, up to the first that is none. All else is as before.
abbrev pub row_stored : Reading → List ℕ → List ℕ → List ℕ
row_stored r line before =
    cond
    (leb (slots_of r.sampler) 20 && leb (length r.history + row_words (slots_of r.sampler)) 8192 && laid_out (row_words (slots_of r.sampler)) line)
    (stored_of line (row_words (slots_of r.sampler)) (length r.history) before)
    before

abbrev pub history_stored : Reading → List ℕ → List ℕ → List ℕ
history_stored r line before = cond (same_bytes line call_names) before (row_stored r line before)

-- only a row changes it
abbrev pub array_at : Stage → Reading → List ℕ → List ℕ → List ℕ
array_at Stage.SettingsNames r line before = before
array_at Stage.Settings r line before = before
array_at Stage.HistoryNames r line before = before
array_at Stage.History r line before = history_stored r line before
array_at Stage.Calls r line before = before
array_at Stage.Ended r line before = before

abbrev pub array_of : Reading → List ℕ → List ℕ → List ℕ
array_of r line before = array_at r.stage r line before
