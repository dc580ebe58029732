-- "Distribution, six words: kind (1 float, 2 int, 3 choice), low, high, log (0/1), stepped (0/1), step."
-- Definitions only.
use Rattle.std.specs.Prelude.{ℕ, Bool, true, false, ◌&&◌, ◌||◌, cond, List, [], ◌∷◌, leb, eqb, Option, Some, None}
use Rattle.std.specs.Option.{is_some, option_map, unwrap_or}
use Rattle.std.specs.Float.{binary64}
use Rattle.std.specs.Float.Ieee.{of_bits, to_bits}
use Rattle.std.specs.Int.{w64, cast_signed, cast_unsigned}
use Rattle.distribution.specs.declared.NumberDistribution.{NumberDistribution}
use Rattle.distribution.specs.declared.Distribution.{Distribution}
use Rattle.distribution.specs.Shape.{shape_of}

abbrev pub flag : Bool → ℕ
flag b = cond b 1 0

-- by the word of a number; "Unstepped: the step word is zero."
abbrev pub number_words : {A : Type 0} → (A → ℕ) → ℕ → NumberDistribution A → List ℕ
number_words word kind d =
    kind ∷ word d.low ∷ word d.high ∷ flag d.log_scale ∷ flag (is_some d.step)
    ∷ unwrap_or (option_map word d.step) 0 ∷ []

unfoldable pub words_of : Distribution → List ℕ
words_of (Distribution.Float d) = number_words (to_bits binary64) 1 d
words_of (Distribution.Int d) = number_words (cast_unsigned w64) 2 d
words_of (Distribution.Categorical d) = 3 ∷ d.n_choices ∷ 0 ∷ 0 ∷ 0 ∷ 0 ∷ []

-- where a test fails, the words are malformed
abbrev pub only : {A : Type 0} → Bool → Option A → Option A
only true r = r
only false r = None

unfoldable pub checked_of : Distribution → Option Distribution
unfolding shape_of
checked_of d = only (shape_of d) (Some d)

-- the two flags are 0 or 1, and without a step its word is 0
abbrev pub flags_ok : ℕ → ℕ → ℕ → Bool
flags_ok log stepped step = leb log 1 && (eqb stepped 1 || (eqb stepped 0 && eqb step 0))

-- by the number of a word, and as the kind's distribution
abbrev pub number_of : {A : Type 0} → (ℕ → A) → ℕ → ℕ → ℕ → ℕ → ℕ → NumberDistribution A
number_of number low high log stepped step = record {
  low = number low;
  high = number high;
  log_scale = eqb log 1;
  step = cond (eqb stepped 1) (Some (number step)) None;
}

abbrev pub number_read : {A : Type 0} → (NumberDistribution A → Distribution) → (ℕ → A)
    → ℕ → ℕ → ℕ → ℕ → ℕ → Option Distribution
number_read make number low high log stepped step =
    only (flags_ok log stepped step) (checked_of (make (number_of number low high log stepped step)))

-- "the other four are zero"
abbrev pub categorical_read : ℕ → ℕ → ℕ → ℕ → ℕ → Option Distribution
categorical_read low high log stepped step =
    only (eqb high 0 && eqb log 0 && eqb stepped 0 && eqb step 0)
    (checked_of (Distribution.Categorical (record { n_choices = low })))

unfoldable pub read_of : ℕ → ℕ → ℕ → ℕ → ℕ → ℕ → Option Distribution
unfolding checked_of
read_of kind low high log stepped step =
    cond (eqb kind 1) (number_read Distribution.Float (of_bits binary64) low high log stepped step)
    (cond (eqb kind 2) (number_read Distribution.Int (cast_signed w64) low high log stepped step)
    (cond (eqb kind 3) (categorical_read low high log stepped step) None))
