-- The definitions of stored words at single points, computed. Assumes nothing.
use Prim.Native.Nat.{ℕ}
use mathlib.Core.Path.{◌≡◌, refl}
use mathlib.Core.Bool.{true, false}
use mathlib.Core.List.{List, [], ◌∷◌, ◌++◌}
use Rattle.arith.specs.Lists.{every, grown, place_of}
use Rattle.word_text.specs.Digits.{all_digits, of_digits, last_digits, digits_of}
use Rattle.propose_lines.specs.Lines.{word_at, words_in, printed}
use Rattle.propose_lines.specs.Stored.{leading, stored_of, room_for, laid_out}

-- room for five words in five places, from the second of six on, not from the second of five on; none and 164 words find none
abbrev Room : Type 0
Room =
    (room_for 5 0 5 ≡ true)
    × (room_for 5 1 6 ≡ true)
    × (room_for 5 1 5 ≡ false)
    × (room_for 0 0 5 ≡ false)
    × (room_for 163 0 8192 ≡ true)
    × (room_for 164 0 8192 ≡ false)

room : Room
room = (refl, refl, refl, refl, refl, refl)

-- two words, and the same with capital letters in the second
abbrev good : List ℕ
good = printed 7 32 ++ digits_of 10

abbrev bad : List ℕ
bad = printed 7 32 ++ (65 ∷ 65 ∷ 65 ∷ 65 ∷ 65 ∷ 65 ∷ 65 ∷ 65 ∷ 65 ∷ 65 ∷ 65 ∷ 65 ∷ 65 ∷ 65 ∷ 65 ∷ 65 ∷ [])

abbrev Stores : Type 0
Stores =
    (laid_out 2 good ≡ true)
    × (laid_out 2 bad ≡ true)
    × (laid_out 3 good ≡ false)
    × (leading 2 good ≡ 2)
    × (leading 2 bad ≡ 1)
    × (stored_of good 2 1 (1 ∷ 2 ∷ 3 ∷ 4 ∷ []) ≡ 1 ∷ 7 ∷ 10 ∷ 4 ∷ [])
    × (stored_of bad 2 1 (1 ∷ 2 ∷ 3 ∷ 4 ∷ []) ≡ 1 ∷ 7 ∷ 3 ∷ 4 ∷ [])

stores : Stores
unfolding every grown place_of all_digits of_digits last_digits word_at words_in
stores = (refl, refl, refl, refl, refl, refl, refl)
