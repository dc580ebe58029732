-- The definitions of texts at single points, computed. Assumes nothing.
use Rattle.std.specs.Prelude.{Some, None, Ok, Err}
use Prim.Native.Nat.{ℕ, ◌^◌}
use mathlib.Core.Path.{◌≡◌, refl}
use mathlib.Core.Bool.{true, false}
use mathlib.Core.List.{List, [], ◌∷◌, ◌++◌}
use native.Mathlib.Omega.{arith}
use lib.IntN.{pos}
use lib.Ieee.{binary64, of_bits, le, lt, eq}
use lib.ListN.{length, take, drop}
use Rattle.arith.specs.Lists.{every, grown}
use Rattle.word_text.specs.Digits.{all_digits, of_digits, last_digits}
use Rattle.distribution.specs.declared.ParamValue.{ParamValue}
use Rattle.refusal.specs.declared.Refusal.{Refusal}
use Rattle.settings.specs.Settings.{settings_ok}
use Rattle.sampler_laws.specs.Calls.{sample_of}
use Rattle.sampler_laws.specs.Runs.{asks}
use Rattle.sampler_state.specs.declared.Sampler.{Sampler}
use Rattle.sampler_state.specs.State.{make_of, fresh_of}
use Rattle.text_laws.specs.declared.Event.{Event}
use Rattle.text_laws.specs.declared.Stage.{Stage}
use Rattle.propose_lines.specs.Lines.{word_at, is_words, words_in, answer_line}
use Rattle.propose_lines.specs.Names.{slots_names, history_names, answer_names, same_bytes}
use Rattle.text_laws.specs.Pieces.{Partial, begun, told_step, no_step, byte_of, piece_of, pieces_of, taken_of}
use Rattle.text_laws.specs.Steps.{reading_of, stepped_of, awaits, ends, settings_of, settings_line, row_words, row_line, history_line, sampled_of, told_line, answered_of, call_line, no_sampler, start_of, step_of, finish_of}
use Rattle.text_laws.specs.Texts.{read_of, ended, written_of, line_of, lines_of, Sized, Words, Table, joined, Document, WellFormed, head_of, text_of, calls_of, answer_lines, answers_to}
use Rattle.text_laws.proofs.Tables.{at}

-- the sample of document 01, byte by byte
abbrev sample : List ℕ
sample =
    115 ∷ 116 ∷ 97 ∷ 114 ∷ 116 ∷ 117 ∷ 112 ∷ 32 ∷ 99 ∷ 97 ∷ 110 ∷ 100 ∷ 105 ∷ 100 ∷ 97 ∷ 116 ∷ 101 ∷ 115 ∷ 32 ∷ 110 ∷ 111 ∷ 105 ∷ 115 ∷ 101 ∷ 32 ∷ 115 ∷ 101 ∷ 101 ∷ 100 ∷ 32 ∷ 115 ∷ 108 ∷ 111 ∷ 116 ∷ 115 ∷ 10 ∷
    48 ∷ 48 ∷ 48 ∷ 48 ∷ 48 ∷ 48 ∷ 48 ∷ 48 ∷ 48 ∷ 48 ∷ 48 ∷ 48 ∷ 48 ∷ 48 ∷ 48 ∷ 97 ∷ 32 ∷ 48 ∷ 48 ∷ 48 ∷ 48 ∷ 48 ∷ 48 ∷ 48 ∷ 48 ∷ 48 ∷ 48 ∷ 48 ∷ 48 ∷ 48 ∷ 48 ∷ 48 ∷ 48 ∷ 32 ∷ 48 ∷ 48 ∷ 48 ∷ 48 ∷ 48 ∷ 48 ∷ 48 ∷ 48 ∷ 48 ∷ 48 ∷ 48 ∷ 48 ∷ 48 ∷ 48 ∷ 48 ∷ 48 ∷ 32 ∷ 48 ∷ 48 ∷ 48 ∷ 48 ∷ 48 ∷ 48 ∷ 48 ∷ 48 ∷ 48 ∷ 48 ∷ 48 ∷ 48 ∷ 48 ∷ 48 ∷ 48 ∷ 49 ∷ 32 ∷ 48 ∷ 48 ∷ 48 ∷ 48 ∷ 48 ∷ 48 ∷ 48 ∷ 48 ∷ 48 ∷ 48 ∷ 48 ∷ 48 ∷ 48 ∷ 48 ∷ 48 ∷ 49 ∷ 10 ∷
    116 ∷ 114 ∷ 105 ∷ 97 ∷ 108 ∷ 32 ∷ 115 ∷ 116 ∷ 97 ∷ 116 ∷ 101 ∷ 32 ∷ 118 ∷ 97 ∷ 108 ∷ 117 ∷ 101 ∷ 32 ∷ 105 ∷ 100 ∷ 32 ∷ 107 ∷ 105 ∷ 110 ∷ 100 ∷ 32 ∷ 108 ∷ 111 ∷ 119 ∷ 32 ∷ 104 ∷ 105 ∷ 103 ∷ 104 ∷ 32 ∷ 108 ∷ 111 ∷ 103 ∷ 32 ∷ 115 ∷ 116 ∷ 101 ∷ 112 ∷ 112 ∷ 101 ∷ 100 ∷ 32 ∷ 115 ∷ 116 ∷ 101 ∷ 112 ∷ 32 ∷ 116 ∷ 97 ∷ 107 ∷ 101 ∷ 110 ∷ 10 ∷
    116 ∷ 114 ∷ 105 ∷ 97 ∷ 108 ∷ 32 ∷ 107 ∷ 105 ∷ 110 ∷ 100 ∷ 32 ∷ 108 ∷ 111 ∷ 119 ∷ 32 ∷ 104 ∷ 105 ∷ 103 ∷ 104 ∷ 32 ∷ 108 ∷ 111 ∷ 103 ∷ 32 ∷ 115 ∷ 116 ∷ 101 ∷ 112 ∷ 112 ∷ 101 ∷ 100 ∷ 32 ∷ 115 ∷ 116 ∷ 101 ∷ 112 ∷ 10 ∷
    48 ∷ 48 ∷ 48 ∷ 48 ∷ 48 ∷ 48 ∷ 48 ∷ 48 ∷ 48 ∷ 48 ∷ 48 ∷ 48 ∷ 48 ∷ 48 ∷ 48 ∷ 55 ∷ 32 ∷ 48 ∷ 48 ∷ 48 ∷ 48 ∷ 48 ∷ 48 ∷ 48 ∷ 48 ∷ 48 ∷ 48 ∷ 48 ∷ 48 ∷ 48 ∷ 48 ∷ 48 ∷ 51 ∷ 32 ∷ 48 ∷ 48 ∷ 48 ∷ 48 ∷ 48 ∷ 48 ∷ 48 ∷ 48 ∷ 48 ∷ 48 ∷ 48 ∷ 48 ∷ 48 ∷ 48 ∷ 48 ∷ 53 ∷ 32 ∷ 48 ∷ 48 ∷ 48 ∷ 48 ∷ 48 ∷ 48 ∷ 48 ∷ 48 ∷ 48 ∷ 48 ∷ 48 ∷ 48 ∷ 48 ∷ 48 ∷ 48 ∷ 48 ∷ 32 ∷ 48 ∷ 48 ∷ 48 ∷ 48 ∷ 48 ∷ 48 ∷ 48 ∷ 48 ∷ 48 ∷ 48 ∷ 48 ∷ 48 ∷ 48 ∷ 48 ∷ 48 ∷ 48 ∷ 32 ∷ 48 ∷ 48 ∷ 48 ∷ 48 ∷ 48 ∷ 48 ∷ 48 ∷ 48 ∷ 48 ∷ 48 ∷ 48 ∷ 48 ∷ 48 ∷ 48 ∷ 48 ∷ 48 ∷ 32 ∷ 48 ∷ 48 ∷ 48 ∷ 48 ∷ 48 ∷ 48 ∷ 48 ∷ 48 ∷ 48 ∷ 48 ∷ 48 ∷ 48 ∷ 48 ∷ 48 ∷ 48 ∷ 48 ∷ 10 ∷
    48 ∷ 48 ∷ 48 ∷ 48 ∷ 48 ∷ 48 ∷ 48 ∷ 48 ∷ 48 ∷ 48 ∷ 48 ∷ 48 ∷ 48 ∷ 48 ∷ 48 ∷ 55 ∷ 32 ∷ 48 ∷ 48 ∷ 48 ∷ 48 ∷ 48 ∷ 48 ∷ 48 ∷ 48 ∷ 48 ∷ 48 ∷ 48 ∷ 48 ∷ 48 ∷ 48 ∷ 48 ∷ 50 ∷ 32 ∷ 48 ∷ 48 ∷ 48 ∷ 48 ∷ 48 ∷ 48 ∷ 48 ∷ 48 ∷ 48 ∷ 48 ∷ 48 ∷ 48 ∷ 48 ∷ 48 ∷ 48 ∷ 48 ∷ 32 ∷ 48 ∷ 48 ∷ 48 ∷ 48 ∷ 48 ∷ 48 ∷ 48 ∷ 48 ∷ 48 ∷ 48 ∷ 48 ∷ 48 ∷ 48 ∷ 48 ∷ 48 ∷ 57 ∷ 32 ∷ 48 ∷ 48 ∷ 48 ∷ 48 ∷ 48 ∷ 48 ∷ 48 ∷ 48 ∷ 48 ∷ 48 ∷ 48 ∷ 48 ∷ 48 ∷ 48 ∷ 48 ∷ 48 ∷ 32 ∷ 48 ∷ 48 ∷ 48 ∷ 48 ∷ 48 ∷ 48 ∷ 48 ∷ 48 ∷ 48 ∷ 48 ∷ 48 ∷ 48 ∷ 48 ∷ 48 ∷ 48 ∷ 48 ∷ 32 ∷ 48 ∷ 48 ∷ 48 ∷ 48 ∷ 48 ∷ 48 ∷ 48 ∷ 48 ∷ 48 ∷ 48 ∷ 48 ∷ 48 ∷ 48 ∷ 48 ∷ 48 ∷ 48 ∷ 10 ∷
    []

sample_document : Document
sample_document = record { settings = 10 ∷ 0 ∷ 0 ∷ 1 ∷ 1 ∷ []; rows = []; calls = (7 ∷ 3 ∷ 5 ∷ 0 ∷ 0 ∷ 0 ∷ 0 ∷ []) ∷ (7 ∷ 2 ∷ 0 ∷ 9 ∷ 0 ∷ 0 ∷ 0 ∷ []) ∷ [] }

printed : sample ≡ text_of sample_document
unfolding sample_document text_of line_of lines_of last_digits slots_names
printed = refl

-- its settings line, and the same with a tab for the first space, with a digit in upper case, with one more space, and with a digit less
abbrev settings : List ℕ
settings = take 84 (drop 36 sample)

abbrev Lines : Type 0
Lines =
    (is_words 5 settings ≡ true)
    × (words_in 5 settings ≡ 10 ∷ 0 ∷ 0 ∷ 1 ∷ 1 ∷ [])
    × (is_words 5 (take 16 settings ++ (9 ∷ drop 17 settings)) ≡ false)
    × (is_words 5 (take 15 settings ++ (65 ∷ drop 16 settings)) ≡ false)
    × (is_words 5 (settings ++ (32 ∷ [])) ≡ false)
    × (is_words 5 (drop 1 settings) ≡ false)
    × (is_words 6 settings ≡ false)

lines : Lines
unfolding is_words words_in word_at every grown all_digits of_digits
lines = (refl, refl, refl, refl, refl, refl, refl)

-- ---- names

-- the history's names for two slots, "the last eight names once per slot"; the names of the output; a byte less, a byte more, a capital letter
abbrev Names : Type 0
Names =
    (history_names 2 ≡ take 57 (drop 121 sample) ++ take 40 (drop 138 sample))
    × (answer_names ≡ 116 ∷ 114 ∷ 105 ∷ 97 ∷ 108 ∷ 32 ∷ 107 ∷ 105 ∷ 110 ∷ 100 ∷ 32 ∷ 118 ∷ 97 ∷ 108 ∷ 117 ∷ 101 ∷ 32 ∷ 100 ∷ 114 ∷ 97 ∷ 119 ∷ 110 ∷ [])
    × (same_bytes (116 ∷ 114 ∷ []) (116 ∷ 114 ∷ []) ≡ true)
    × (same_bytes (116 ∷ []) (116 ∷ 114 ∷ []) ≡ false)
    × (same_bytes (116 ∷ 114 ∷ []) (116 ∷ []) ≡ false)
    × (same_bytes (84 ∷ 114 ∷ []) (116 ∷ 114 ∷ []) ≡ false)

names : Names
unfolding slots_names same_bytes
names = (refl, refl, refl, refl, refl, refl)

-- ---- words

-- word 0 and word 3 of the settings line; a word with a capital letter; a line whose last space is none
abbrev SingleWords : Type 0
SingleWords =
    (word_at settings 0 ≡ Some 10)
    × (word_at settings 3 ≡ Some 1)
    × (word_at (take 15 settings ++ (65 ∷ [])) 0 ≡ None)
    × (is_words 5 (take 67 settings ++ (48 ∷ drop 68 settings)) ≡ false)

single-words : SingleWords
unfolding is_words word_at every all_digits of_digits
single-words = (refl, refl, refl, refl)

-- ---- the lines written

-- the output of document 01, after its names line
abbrev output : List ℕ
output =
    48 ∷ 48 ∷ 48 ∷ 48 ∷ 48 ∷ 48 ∷ 48 ∷ 48 ∷ 48 ∷ 48 ∷ 48 ∷ 48 ∷ 48 ∷ 48 ∷ 48 ∷ 55 ∷ 32 ∷ 48 ∷ 48 ∷ 48 ∷ 48 ∷ 48 ∷ 48 ∷ 48 ∷ 48 ∷ 48 ∷ 48 ∷ 48 ∷ 48 ∷ 48 ∷ 48 ∷ 48 ∷ 51 ∷ 32 ∷ 48 ∷ 48 ∷ 48 ∷ 48 ∷ 48 ∷ 48 ∷ 48 ∷ 48 ∷ 48 ∷ 48 ∷ 48 ∷ 48 ∷ 48 ∷ 48 ∷ 48 ∷ 49 ∷ 32 ∷ 48 ∷ 48 ∷ 48 ∷ 48 ∷ 48 ∷ 48 ∷ 48 ∷ 48 ∷ 48 ∷ 48 ∷ 48 ∷ 48 ∷ 48 ∷ 48 ∷ 48 ∷ 49 ∷ 10 ∷
    48 ∷ 48 ∷ 48 ∷ 48 ∷ 48 ∷ 48 ∷ 48 ∷ 48 ∷ 48 ∷ 48 ∷ 48 ∷ 48 ∷ 48 ∷ 48 ∷ 48 ∷ 55 ∷ 32 ∷ 48 ∷ 48 ∷ 48 ∷ 48 ∷ 48 ∷ 48 ∷ 48 ∷ 48 ∷ 48 ∷ 48 ∷ 48 ∷ 48 ∷ 48 ∷ 48 ∷ 48 ∷ 50 ∷ 32 ∷ 48 ∷ 48 ∷ 48 ∷ 48 ∷ 48 ∷ 48 ∷ 48 ∷ 48 ∷ 48 ∷ 48 ∷ 48 ∷ 48 ∷ 48 ∷ 48 ∷ 48 ∷ 53 ∷ 32 ∷ 48 ∷ 48 ∷ 48 ∷ 48 ∷ 48 ∷ 48 ∷ 48 ∷ 48 ∷ 48 ∷ 48 ∷ 48 ∷ 48 ∷ 48 ∷ 48 ∷ 48 ∷ 49 ∷ 10 ∷
    []

-- "trial, value kind, value, words drawn"; "A refused call prints its trial, 0, the number, 0."; "Numbers 1 and 14 print trial 0 and end the run."
abbrev Written : Type 0
Written =
    (answer_line 7 3 1 1 ≡ take 68 output)
    × (answer_lines ((7 ∷ []) ∷ (7 ∷ []) ∷ []) (Ok (record { value = Some (ParamValue.Categorical 1); drawn = 1 }) ∷ Ok (record { value = Some (ParamValue.Int (pos 5)); drawn = 1 }) ∷ []) ≡ output)
    × ((answered_of 7 (record { answer = Err Refusal.Malformed; sampler = no_sampler }) start_of).written ≡ answer_line 7 0 2 0)
    × ((answered_of 7 (record { answer = Err Refusal.Malformed; sampler = no_sampler }) start_of).event ≡ Event.Call 7)
    × (told_line 7 (Ok (record { value = None; drawn = 0 })) ≡ answer_line 7 0 0 0)
    × ((ends Refusal.Text start_of).written ≡ 48 ∷ 48 ∷ 48 ∷ 48 ∷ 48 ∷ 48 ∷ 48 ∷ 48 ∷ 48 ∷ 48 ∷ 48 ∷ 48 ∷ 48 ∷ 48 ∷ 48 ∷ 48 ∷ 32 ∷ 48 ∷ 48 ∷ 48 ∷ 48 ∷ 48 ∷ 48 ∷ 48 ∷ 48 ∷ 48 ∷ 48 ∷ 48 ∷ 48 ∷ 48 ∷ 48 ∷ 48 ∷ 48 ∷ 32 ∷ 48 ∷ 48 ∷ 48 ∷ 48 ∷ 48 ∷ 48 ∷ 48 ∷ 48 ∷ 48 ∷ 48 ∷ 48 ∷ 48 ∷ 48 ∷ 48 ∷ 48 ∷ 101 ∷ 32 ∷ 48 ∷ 48 ∷ 48 ∷ 48 ∷ 48 ∷ 48 ∷ 48 ∷ 48 ∷ 48 ∷ 48 ∷ 48 ∷ 48 ∷ 48 ∷ 48 ∷ 48 ∷ 48 ∷ 10 ∷ [])
    × ((ends Refusal.Settings start_of).reading.stage ≡ Stage.Ended)

written-lines : Written
unfolding answer_line answer_lines last_digits
written-lines = (refl, refl, refl, refl, refl, refl, refl)

-- ---- line by line

-- a run that has ended
abbrev ended_run : Partial
ended_run = record { reading = record { stage = Stage.Ended; sampler = no_sampler; history = [] }; line = [] }

-- a sampler of one slot, as the sample has it
abbrev made : Sampler
made = fresh_of (settings_of (10 ∷ 0 ∷ 0 ∷ 1 ∷ 1 ∷ []))

-- a reader's part of its array, and what a step with a line and one without write
abbrev Readers : Type 0
Readers =
    (reading_of (record { stage = Stage.History; sampler = made; count = 2; within = omega arith }) (5 ∷ 6 ∷ 7 ∷ []) ≡ at Stage.History made (5 ∷ 6 ∷ []))
    × ((stepped_of (record { reader = record { stage = Stage.History; sampler = made; count = 2; within = omega arith }; event = Event.Call 7; line = Some (48 ∷ 49 ∷ []) }) []).written ≡ 48 ∷ 49 ∷ [])
    × ((stepped_of (record { reader = record { stage = Stage.History; sampler = made; count = 2; within = omega arith }; event = Event.Row; line = None }) []).written ≡ [])

readers : Readers
readers = (refl, refl, refl)

-- the five settings in order; the settings line, with 0 slots, and a digit short
abbrev Settings : Type 0
Settings =
    (settings_of (1 ∷ 2 ∷ 3 ∷ 4 ∷ 5 ∷ []) ≡ record { n_startup_trials = 1; n_candidates = 2; noise_variance = of_bits binary64 3; seed = 4; slots = 5 })
    × (step_of (at Stage.Settings no_sampler []) settings ≡ record { reading = at Stage.HistoryNames made []; event = Event.Settings; written = [] })
    × (step_of (at Stage.Settings no_sampler []) (take 83 settings ++ (48 ∷ [])) ≡ ends Refusal.Settings (at Stage.Settings no_sampler []))
    × (step_of (at Stage.Settings no_sampler []) (take 83 settings) ≡ ends Refusal.Text (at Stage.Settings no_sampler []))

settings-lines : Settings
unfolding step_of settings_line is_words words_in word_at every grown all_digits of_digits make_of settings_ok of_bits le lt eq
settings-lines = (refl, refl, refl, refl)

-- the history's names for one slot, and for two
abbrev HistoryNames : Type 0
HistoryNames =
    (step_of (at Stage.HistoryNames made []) (take 57 (drop 121 sample)) ≡ awaits Stage.History Event.Names (at Stage.HistoryNames made []))
    × (step_of (at Stage.HistoryNames made []) (take 57 (drop 121 sample) ++ take 40 (drop 138 sample)) ≡ ends Refusal.Text (at Stage.HistoryNames made []))

history-names : HistoryNames
unfolding step_of slots_names same_bytes
history-names = (refl, refl)

-- "rows of 3 + 8n words": one of 11 words behind a history, one of 10; then the names that start the calls
abbrev row : List ℕ
row = line_of (5 ∷ 1 ∷ 0 ∷ 9 ∷ 3 ∷ 4 ∷ 0 ∷ 0 ∷ 0 ∷ 0 ∷ 2 ∷ [])

abbrev Rows : Type 0
Rows =
    (row_words 20 ≡ 163)
    × (step_of (at Stage.History made (8 ∷ [])) row ≡ record { reading = at Stage.History made (8 ∷ 5 ∷ 1 ∷ 0 ∷ 9 ∷ 3 ∷ 4 ∷ 0 ∷ 0 ∷ 0 ∷ 0 ∷ 2 ∷ []); event = Event.Row; written = [] })
    × (step_of (at Stage.History made []) (take 169 row) ≡ ends Refusal.Text (at Stage.History made []))
    × (step_of (at Stage.History made []) (take 36 (drop 179 sample)) ≡ awaits Stage.Calls Event.CallsBegin (at Stage.History made []))

rows : Rows
unfolding step_of history_line row_line same_bytes is_words words_in word_at every grown all_digits of_digits line_of last_digits
rows = (refl, refl, refl, refl)

-- a row up to word 8,192, and over it
row_words_lem : is_words 11 row ≡ true
unfolding is_words word_at every all_digits of_digits line_of last_digits
row_words_lem = refl

row-at-the-limit : (h : List ℕ) → length h ≡ 8181 → (row_line (at Stage.History made h) row).event ≡ Event.Row
unfolding row_line
row-at-the-limit h e = rw (e, row_words_lem)

row-over-the-limit : (h : List ℕ) → length h ≡ 8182 → (row_line (at Stage.History made h) row).event ≡ Event.Refused Refusal.Text
unfolding row_line
row-over-the-limit h e = rw e

-- the words of a call in order, "trial kind low high log stepped step"; the first call of the sample, and six words of it; after the end
abbrev Calls : Type 0
Calls =
    (sampled_of (at Stage.Calls made (8 ∷ [])) (7 ∷ 1 ∷ 2 ∷ 3 ∷ 4 ∷ 5 ∷ 6 ∷ []) ≡ sample_of made 1 2 3 4 5 6 7 (8 ∷ []))
    × (step_of (at Stage.Calls made []) (take 118 (drop 216 sample)) ≡ answered_of 7 (sample_of made 3 5 0 0 0 0 7 []) (at Stage.Calls made []))
    × (step_of (at Stage.Calls made []) (take 101 (drop 216 sample)) ≡ ends Refusal.Text (at Stage.Calls made []))
    × (step_of (at Stage.Ended made []) (take 118 (drop 216 sample)) ≡ awaits Stage.Ended Event.Nothing (at Stage.Ended made []))

calls : Calls
unfolding step_of call_line is_words words_in word_at every grown all_digits of_digits
calls = (refl, refl, refl, refl)

-- the input's end: after the calls, inside a call line, before the calls, and after the end
abbrev Ends : Type 0
Ends =
    (finish_of (at Stage.Calls made []) [] ≡ awaits Stage.Ended Event.Nothing (at Stage.Calls made []))
    × (finish_of (at Stage.Calls made []) (48 ∷ []) ≡ ends Refusal.Text (at Stage.Calls made []))
    × (finish_of (at Stage.History made []) [] ≡ ends Refusal.Text (at Stage.History made []))
    × (finish_of (at Stage.Ended made []) (48 ∷ []) ≡ awaits Stage.Ended Event.Nothing (at Stage.Ended made []))

text-ends : Ends
unfolding finish_of
text-ends = (refl, refl, refl, refl)

-- ---- whole texts

-- the sample's words: rows one after the other, its calls, no answers without calls
abbrev Documents : Type 0
Documents =
    (joined ((1 ∷ 2 ∷ []) ∷ (3 ∷ []) ∷ []) ≡ 1 ∷ 2 ∷ 3 ∷ [])
    × (calls_of (8 ∷ []) sample_document.calls ≡ asks (record { kind = 3; low = 5; high = 0; log = 0; stepped = 0; step = 0 }) 7 (8 ∷ []) ∷ asks (record { kind = 2; low = 0; high = 9; log = 0; stepped = 0; step = 0 }) 7 (8 ∷ []) ∷ [])
    × (head_of sample_document.settings ≡ take 121 sample)
    × (answers_to (record { settings = sample_document.settings; rows = []; calls = [] }) ≡ [])

documents : Documents
unfolding sample_document joined calls_of line_of last_digits answers_to
documents = (refl, refl, refl, refl)

-- the sample is well-formed; a word of 65 bits is none
sample-well-formed : WellFormed sample_document
unfolding sample_document Sized Table joined settings_ok of_bits le lt eq
sample-well-formed =
    let zeros : Words 7 (7 ∷ 3 ∷ 5 ∷ 0 ∷ 0 ∷ 0 ∷ 0 ∷ []) = record { some = omega arith; count = refl; sized = (omega arith, (omega arith, (omega arith, (omega arith, (omega arith, (omega arith, (omega arith, tt))))))) } in
    let last : Words 7 (7 ∷ 2 ∷ 0 ∷ 9 ∷ 0 ∷ 0 ∷ 0 ∷ []) = record { some = omega arith; count = refl; sized = (omega arith, (omega arith, (omega arith, (omega arith, (omega arith, (omega arith, (omega arith, tt))))))) } in
    record {
      settings = record { some = omega arith; count = refl; sized = (omega arith, (omega arith, (omega arith, (omega arith, (omega arith, tt))))) };
      in_range = refl;
      rows = tt;
      room = omega arith;
      calls = (zeros, (last, tt));
    }

too_large : Sized (2 ^ 64 ∷ []) → ⊥
unfolding Sized
too_large h = let l = h.0 in omega arith

-- no input, a byte and no newline, an empty line: the names line, and 14 for trial 0; a first line of another byte ends the run with 14, and a settings' names line is accepted
abbrev Texts : Type 0
Texts =
    (written_of [] ≡ ended answer_names ++ answer_line 0 0 14 0)
    × (written_of (83 ∷ []) ≡ ended answer_names ++ answer_line 0 0 14 0)
    × (written_of (10 ∷ []) ≡ ended answer_names ++ (answer_line 0 0 14 0 ++ []))
    × (step_of start_of (83 ∷ take 34 (drop 1 sample)) ≡ ends Refusal.Text start_of)
    × (step_of start_of (take 35 sample) ≡ awaits Stage.Settings Event.Names start_of)

texts : Texts
unfolding written_of read_of start_of step_of finish_of same_bytes
texts = (refl, refl, refl, refl, refl)

-- ---- pieces

-- a byte inside a line, a newline, and both after the end
abbrev Bytes : Type 0
Bytes =
    (byte_of begun 83 ≡ no_step (record { reading = start_of; line = 83 ∷ [] }))
    × (byte_of begun 10 ≡ told_step (ends Refusal.Text start_of))
    × (byte_of ended_run 83 ≡ no_step ended_run)
    × (byte_of ended_run 10 ≡ no_step ended_run)

bytes : Bytes
unfolding byte_of start_of step_of same_bytes
bytes = (refl, refl, refl, refl)

-- a byte and a newline on a line that is as long as any table's, and a byte on one that is shorter by one
module _ (line : List ℕ) where
  calls_at : Partial
  calls_at = record { reading = at Stage.Calls made []; line = line }

  one-too-many : length line ≡ 2770 → byte_of calls_at 48 ≡ told_step (ends Refusal.Text (at Stage.Calls made []))
  unfolding byte_of calls_at
  one-too-many e = rw e

  ended-in-time : length line ≡ 2770 → byte_of calls_at 10 ≡ told_step (step_of (at Stage.Calls made []) line)
  unfolding byte_of calls_at
  ended-in-time e = refl

  just-held : length line ≡ 2769 → byte_of calls_at 48 ≡ no_step (record { reading = at Stage.Calls made []; line = line ++ (48 ∷ []) })
  unfolding byte_of calls_at
  just-held e = rw e

-- the names line of the settings in two pieces, nothing in between; a piece up to its first newline
abbrev Pieces : Type 0
Pieces =
    (pieces_of begun (take 20 sample ∷ [] ∷ take 16 (drop 20 sample) ∷ []) ≡ record { text = record { reading = at Stage.Settings no_sampler []; line = [] }; written = [] })
    × ((piece_of begun (10 ∷ 83 ∷ [])).written ≡ answer_line 0 0 14 0 ++ [])
    × (taken_of begun (83 ∷ 10 ∷ 83 ∷ []) ≡ record { text = record { reading = (ends Refusal.Text start_of).reading; line = [] }; used = 2; step = Some (ends Refusal.Text start_of) })
    × (taken_of begun (83 ∷ []) ≡ record { text = record { reading = start_of; line = 83 ∷ [] }; used = 1; step = None })
    × (taken_of ended_run (83 ∷ 10 ∷ []) ≡ record { text = ended_run; used = 2; step = None })

pieces : Pieces
unfolding byte_of piece_of pieces_of taken_of start_of step_of same_bytes
pieces = (refl, refl, refl, refl, refl)
