-- The definitions of the history's array at single points, computed. Assumes nothing.
use Prim.Native.Nat.{ℕ}
use mathlib.Core.Path.{◌≡◌, refl}
use mathlib.Core.List.{List, [], ◌∷◌, ◌++◌}
use lib.ListN.{take}
use Rattle.arith.specs.Lists.{every, grown, place_of}
use Rattle.word_text.specs.Digits.{all_digits, of_digits, last_digits}
use Rattle.sampler_state.specs.State.{fresh_of}
use Rattle.propose_lines.specs.Lines.{word_at, words_in}
use Rattle.propose_lines.specs.Names.{call_names, same_bytes}
use Rattle.text_laws.specs.declared.Stage.{Stage}
use Rattle.text_laws.specs.Steps.{Reading, settings_of}
use Rattle.text_laws.specs.Texts.{line_of}
use Rattle.propose_text.specs.Array.{array_of}
use Rattle.propose_text.specs.Partial.{put_first}

-- one slot, and a history of one word
abbrev reading : Stage → Reading
reading stage = record { stage = stage; sampler = fresh_of (settings_of (10 ∷ 0 ∷ 0 ∷ 1 ∷ 1 ∷ [])); history = 8 ∷ [] }

-- a row of 11 words, and the same with a capital letter in the last
abbrev row : List ℕ
row = line_of (5 ∷ 1 ∷ 0 ∷ 9 ∷ 3 ∷ 4 ∷ 0 ∷ 0 ∷ 0 ∷ 0 ∷ 2 ∷ [])

abbrev bad : List ℕ
bad = take 185 row ++ (65 ∷ [])

abbrev before : List ℕ
before = 8 ∷ 7 ∷ 7 ∷ 7 ∷ 7 ∷ 7 ∷ 7 ∷ 7 ∷ 7 ∷ 7 ∷ 7 ∷ 7 ∷ 6 ∷ []

-- a row's words behind the history's; those before the first that is none; a line one byte short, the names of the calls, and a call change nothing
abbrev Arrays : Type 0
Arrays =
    (array_of (reading Stage.History) row before ≡ 8 ∷ 5 ∷ 1 ∷ 0 ∷ 9 ∷ 3 ∷ 4 ∷ 0 ∷ 0 ∷ 0 ∷ 0 ∷ 2 ∷ 6 ∷ [])
    × (array_of (reading Stage.History) bad before ≡ 8 ∷ 5 ∷ 1 ∷ 0 ∷ 9 ∷ 3 ∷ 4 ∷ 0 ∷ 0 ∷ 0 ∷ 0 ∷ 7 ∷ 6 ∷ [])
    × (array_of (reading Stage.History) (take 185 row) before ≡ before)
    × (array_of (reading Stage.History) call_names before ≡ before)
    × (array_of (reading Stage.Calls) row before ≡ before)

arrays : Arrays
unfolding every grown place_of all_digits of_digits last_digits word_at words_in same_bytes line_of
arrays = (refl, refl, refl, refl, refl)

-- two bytes at the front of three
first : put_first (1 ∷ 2 ∷ []) (7 ∷ 8 ∷ 9 ∷ []) ≡ 1 ∷ 2 ∷ 9 ∷ []
first = refl
