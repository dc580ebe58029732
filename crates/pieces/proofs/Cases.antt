-- What is kept of a few bytes, computed. Assumes nothing.
use mathlib.Core.Path.{◌≡◌, refl}
use mathlib.Core.List.{[], ◌∷◌}
use Rattle.pieces.specs.Kept.{kept_of}

-- two of five from the third on; none; all of them; places that are crossed, and one past the end
kept : (kept_of 2 4 (1 ∷ 2 ∷ 3 ∷ 4 ∷ 5 ∷ []) ≡ 3 ∷ 4 ∷ 3 ∷ 4 ∷ 5 ∷ [])
    × (kept_of 2 2 (1 ∷ 2 ∷ 3 ∷ []) ≡ 1 ∷ 2 ∷ 3 ∷ [])
    × (kept_of 0 3 (1 ∷ 2 ∷ 3 ∷ []) ≡ 1 ∷ 2 ∷ 3 ∷ [])
    × (kept_of 2 1 (1 ∷ 2 ∷ 3 ∷ []) ≡ 1 ∷ 2 ∷ 3 ∷ [])
    × (kept_of 1 4 (1 ∷ 2 ∷ 3 ∷ []) ≡ 1 ∷ 2 ∷ 3 ∷ [])
unfolding kept_of
kept = (refl, refl, refl, refl, refl)
