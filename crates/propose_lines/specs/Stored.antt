-- The words of a line stored in an array. Definitions only.
use Rattle.std.specs.Prelude.{ℕ, ◌+◌, ◌*◌, ◌≡◌, Bool, true, not, ◌&&◌, cond, List, ◌++◌, eqb, leb, length, take}
use Rattle.std.proofs.Math.Seq.{paste}
use Rattle.arith.specs.Lists.{every, place_of}
use Rattle.propose_lines.specs.Lines.{is_word, word_at, spaced_of, is_words, words_in}

-- how many of k words stand before the first that is none
abbrev pub leading : ℕ → List ℕ → ℕ
leading k line = place_of k (λ i. not (is_word (word_at line i)))

-- an array with these stored from place `at` on
abbrev pub stored_of : List ℕ → ℕ → ℕ → List ℕ → List ℕ
stored_of line k at before = paste before at (words_in k line) (leading k line)

-- the words that stand at every 17th byte, stored in an array from place `at` on
pub record WordsStored (line : List ℕ) (k at : ℕ) (before after : List ℕ) (ok : Bool) : Type 0 where
  pub is : ok ≡ every k (λ i. is_word (word_at line i))
  pub kept : take at after ≡ take at before
  pub read : ok ≡ true → take (at + k) after ≡ take at before ++ words_in k line
  pub left : after ≡ stored_of line k at before

-- whether k words, 1 to 163 of them, find room in an array of that many places from place `at` on
abbrev pub room_for : ℕ → ℕ → ℕ → Bool
room_for k at places = leb 1 k && leb k 163 && leb (at + k) places

-- whether a line has the length and the spaces of k words
abbrev pub laid_out : ℕ → List ℕ → Bool
laid_out k line = eqb (length line + 1) (17 * k) && spaced_of k line

-- k words read into an array from place `at` on, where there is room for them: whether they are there, what stands before them, and they.
-- Without room, and where the line is not laid out for them, the array stays as it was.
pub record WordsRead (line : List ℕ) (k at : ℕ) (before after : List ℕ) (ok : Bool) : Type 0 where
  pub is : ok ≡ (room_for k at (length before) && is_words k line)
  pub kept : take at after ≡ take at before
  pub read : ok ≡ true → take (at + k) after ≡ take at before ++ words_in k line
  pub left : after ≡ cond (room_for k at (length before) && laid_out k line) (stored_of line k at before) before
