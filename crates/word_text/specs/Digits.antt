-- "words are 16 lower-case hexadecimal digits". Definitions only.
use Rattle.std.specs.Prelude.{ℕ, zero, suc, ◌+◌, ◌-◌, ◌*◌, ◌/◌, ◌%◌, ◌^◌, Bool, true, ◌&&◌, cond, List, [], ◌∷◌, ◌++◌, eqb, leb, ltb, length, Option, Some, None}

-- the byte of a digit from 0 to 15: `0` to `9`, `a` to `f`
abbrev pub digit_of : ℕ → ℕ
digit_of d = cond (ltb d 10) (48 + d) (97 + (d - 10))

-- the digit of a byte, and 16 where the byte is no lower-case hexadecimal digit
abbrev pub value_of : ℕ → ℕ
value_of b =
    cond (leb 48 b && leb b 57) (b - 48)
    (cond (leb 97 b && leb b 102) (b - 97 + 10)
    16)

-- each byte is a digit
unfoldable pub all_digits : List ℕ → Bool
all_digits [] = true
all_digits (b ∷ s) = ltb (value_of b) 16 && all_digits s

-- the number that the digits s are, the highest first
unfoldable pub of_digits : List ℕ → ℕ
of_digits [] = 0
of_digits (b ∷ s) = value_of b * 16 ^ length s + of_digits s

-- the last k digits of n, the highest first
unfoldable pub last_digits : ℕ → ℕ → List ℕ
last_digits zero n = []
last_digits (suc k) n = last_digits k (n / 16) ++ (digit_of (n % 16) ∷ [])

-- the sixteen digits of a word
abbrev pub digits_of : ℕ → List ℕ
digits_of w = last_digits 16 w

-- sixteen digits are a word, and anything else is malformed
abbrev pub parse_of : List ℕ → Option ℕ
parse_of s = cond (eqb (length s) 16 && all_digits s) (Some (of_digits s)) None
