-- A well-formed distribution and its six words say the same: each is read back from the other. Definitions only.
use Rattle.std.specs.Prelude.{◌≡◌, ℕ, ◌^◌, ◌<◌, [], ◌∷◌, T, get_or, Some, IfSome}
use Rattle.std.specs.Float.{binary64}
use Rattle.std.specs.Float.Ieee.{fits}
use Rattle.distribution.specs.declared.Distribution.{Distribution}
use Rattle.distribution.specs.Shape.{shape_of}
use Rattle.distribution_words.specs.Words.{words_of, read_of}

-- the floats are binary64's, as those of a program are; integers and counts fit a word by their limits
abbrev pub Held : Distribution → Type 0
Held (Distribution.Float d) =
    T (fits binary64 d.low) × T (fits binary64 d.high) × IfSome d.step (λ step. T (fits binary64 step))
Held (Distribution.Int d) = Unit
Held (Distribution.Categorical d) = Unit

-- the kind and the two flags are below 2 ^ 64 wherever something is read
pub record RoundTrip : Type 0 where
  pub reads : (d : Distribution) → Held d → T (shape_of d) → let w = words_of d in
      read_of (get_or w 0 0) (get_or w 1 0) (get_or w 2 0) (get_or w 3 0) (get_or w 4 0) (get_or w 5 0) ≡ Some d
  pub words : (kind low high log stepped step : ℕ) (d : Distribution) → low < 2 ^ 64 → high < 2 ^ 64 → step < 2 ^ 64
      → read_of kind low high log stepped step ≡ Some d
      → Held d × T (shape_of d) × (words_of d ≡ kind ∷ low ∷ high ∷ log ∷ stepped ∷ step ∷ [])
