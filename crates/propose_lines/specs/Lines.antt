-- Lines of words: "words are 16 lower-case hexadecimal digits, one space between, newline after each line". Definitions only.
use Rattle.std.specs.Prelude.{ℕ, ◌+◌, ◌*◌, ◌-◌, Bool, true, false, ◌&&◌, List, [], ◌∷◌, ◌++◌, eqb, length, get_or, take, drop, Option, Some, None}
use Rattle.arith.specs.Lists.{every, list_of}
use Rattle.word_text.specs.Digits.{digits_of, parse_of}

-- ---- what is read

-- word i stands 17 bytes after the one before it
unfoldable pub word_at : List ℕ → ℕ → Option ℕ
word_at line i = parse_of (take 16 (drop (17 * i) line))

abbrev pub is_word : Option ℕ → Bool
is_word (Some w) = true
is_word None = false

abbrev pub word_of : Option ℕ → ℕ
word_of (Some w) = w
word_of None = 0

-- whether a space stands between each two of k words
abbrev pub spaced_of : ℕ → List ℕ → Bool
spaced_of k line = every (k - 1) (λ i. eqb (get_or line (17 * i + 16) 0) 32)

-- whether a line is k words, one at least
unfoldable pub is_words : ℕ → List ℕ → Bool
is_words k line = eqb (length line + 1) (17 * k) && spaced_of k line && every k (λ i. is_word (word_at line i))

-- these words
unfoldable pub words_in : ℕ → List ℕ → List ℕ
words_in k line = list_of (λ i. word_of (word_at line i)) k

-- ---- what is written

-- a word and the byte after it: a space or a newline
abbrev pub printed : ℕ → ℕ → List ℕ
printed w end = digits_of w ++ (end ∷ [])

-- "trial, value kind, value, words drawn"
unfoldable pub answer_line : ℕ → ℕ → ℕ → ℕ → List ℕ
answer_line trial kind value drawn = printed trial 32 ++ printed kind 32 ++ printed value 32 ++ printed drawn 10
