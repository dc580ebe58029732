-- Six words and the distributions that they are, computed. Assumes nothing.
use Rattle.std.specs.Prelude.{Some, None}
use mathlib.Core.Path.{◌≡◌, refl}
use mathlib.Core.Bool.{false}
use mathlib.Core.List.{[], ◌∷◌}
use lib.IntN.{pos, negsuc}
use lib.Ieee.{of_bits, to_bits, of_int, neg, le, lt, eq}
use Rattle.distribution.specs.declared.Distribution.{Distribution}
use Rattle.distribution.specs.Shape.{shape_of, int_shape, int_step, categorical_shape}
use Rattle.distribution_words.specs.Words.{read_of, checked_of, words_of}

-- an int from −5 to 5 in steps of 2, and a choice of 3
abbrev steps : Distribution
steps = Distribution.Int (record { low = negsuc 4; high = pos 5; log_scale = false; step = Some (pos 2) })

abbrev three : Distribution
three = Distribution.Categorical (record { n_choices = 3 })

abbrev Words : Type 0
Words =
    -- kind, low, high, log, stepped, step; a choice has its count as low
    (words_of steps ≡ 2 ∷ 0xfffffffffffffffb ∷ 5 ∷ 0 ∷ 1 ∷ 2 ∷ [])
    × (words_of three ≡ 3 ∷ 3 ∷ 0 ∷ 0 ∷ 0 ∷ 0 ∷ [])
    × (read_of 2 0xfffffffffffffffb 5 0 1 2 ≡ Some steps)
    × (read_of 3 3 0 0 0 0 ≡ Some three)
    -- a flag of 2, a choice with a high, a kind of 4
    × (read_of 2 0 5 0 2 2 ≡ None)
    × (read_of 3 3 1 0 0 0 ≡ None)
    × (read_of 4 3 0 0 0 0 ≡ None)

words : Words
unfolding words_of read_of checked_of shape_of int_shape int_step categorical_shape of_bits to_bits of_int neg le lt eq
words = (refl, refl, refl, refl, refl, refl, refl)
