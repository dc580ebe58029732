-- The definitions at document 01's second word from 1, "100041060c011441", by computation.
use Rattle.std.specs.Prelude.{Some, None}
use Prim.Native.Nat.{ℕ}
use mathlib.Core.Path.{◌≡◌, refl}
use mathlib.Core.Bool.{true, false}
use mathlib.Core.List.{List, [], ◌∷◌}
use lib.ListN.{drop}
use Rattle.word_text.specs.Digits.{digit_of, value_of, all_digits, of_digits, last_digits, digits_of, parse_of}

abbrev text : List ℕ
text = 49 ∷ 48 ∷ 48 ∷ 48 ∷ 52 ∷ 49 ∷ 48 ∷ 54 ∷ 48 ∷ 99 ∷ 48 ∷ 49 ∷ 49 ∷ 52 ∷ 52 ∷ 49 ∷ []

printed : digits_of 0x100041060c011441 ≡ text
unfolding last_digits
printed = refl

read : parse_of text ≡ Some 0x100041060c011441
unfolding all_digits of_digits
read = refl

-- one digit more
longer : parse_of (48 ∷ text) ≡ None
longer = refl

-- one digit less, and one of the digits as the byte `C`
abbrev Refused : Type 0
Refused =
    (parse_of (drop 1 text) ≡ None)
    × (parse_of (67 ∷ drop 1 text) ≡ None)

refused : Refused
unfolding all_digits
refused = (refl, refl)

-- the bytes `9`, `a` and `f`, and those before and after the digits: `/`, `:`, `` ` `` and `g`
abbrev Bytes : Type 0
Bytes =
    (digit_of 9 ≡ 57)
    × (digit_of 10 ≡ 97)
    × (digit_of 15 ≡ 102)
    × (value_of 57 ≡ 9)
    × (value_of 97 ≡ 10)
    × (value_of 102 ≡ 15)
    × (value_of 47 ≡ 16)
    × (value_of 58 ≡ 16)
    × (value_of 96 ≡ 16)
    × (value_of 103 ≡ 16)

bytes : Bytes
bytes = (refl, refl, refl, refl, refl, refl, refl, refl, refl, refl)

-- `2f` is 47
abbrev Numbers : Type 0
Numbers =
    (of_digits (50 ∷ 102 ∷ []) ≡ 47)
    × (last_digits 2 47 ≡ 50 ∷ 102 ∷ [])
    × (last_digits 1 47 ≡ 102 ∷ [])
    × (all_digits (50 ∷ 102 ∷ []) ≡ true)
    × (all_digits (50 ∷ 70 ∷ []) ≡ false)

numbers : Numbers
unfolding of_digits last_digits all_digits
numbers = (refl, refl, refl, refl, refl)
