-- An element of an array, whatever stands for one past its end. Assumes nothing.
use Prim.Native.Nat.{ℕ, zero, suc, ◌<◌}
use mathlib.Core.Path.{◌≡◌, refl}
use mathlib.Core.List.{List, [], ◌∷◌}
use native.Mathlib.Nat.{not-suc-le-zero, le_of_suc-le-suc}
use lib.ListN.{length, get_or}

pub same-element : {A : Type 0} (xs : List A) (i : ℕ) (x y : A) → i < length xs → get_or xs i x ≡ get_or xs i y
same-element [] i x y h = absurd (not-suc-le-zero h)
same-element (z ∷ zs) zero x y h = refl
same-element (z ∷ zs) (suc i) x y h = same-element zs i x y (le_of_suc-le-suc h)
