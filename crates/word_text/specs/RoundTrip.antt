-- Printing and reading undo each other. Definitions only.
use Rattle.std.specs.Prelude.{ℕ, ◌^◌, ◌<◌, ◌≡◌, List, Some}
use Rattle.word_text.specs.Digits.{digits_of, parse_of}

pub record RoundTrip : Type 0 where
  -- the digits of a word are read as that word
  pub reads : (w : ℕ) → w < 2 ^ 64 → parse_of (digits_of w) ≡ Some w
  -- what is read as a word is its digits
  pub prints : (s : List ℕ) (w : ℕ) → parse_of s ≡ Some w → (s ≡ digits_of w) × (w < 2 ^ 64)
