-- Small rows, for cases computed. Definitions only.
use Prim.Native.Nat.{ℕ, zero, suc}
use mathlib.Core.List.{List, [], ◌∷◌, ◌++◌}
use lib.ListN.{replicate}

-- an int from 0 to high, under that id, taken at v; and an absent slot
abbrev pub slot : ℕ → ℕ → ℕ → List ℕ
slot id high v = id ∷ 2 ∷ 0 ∷ high ∷ 0 ∷ 0 ∷ 0 ∷ v ∷ []

abbrev pub absent : List ℕ
absent = replicate 8 0

-- a row of state s and objective 1.0
abbrev pub row : ℕ → List ℕ → List ℕ
row s slots = 7 ∷ s ∷ 0x3ff0000000000000 ∷ slots

-- that many good rows of one slot
abbrev pub rows : ℕ → List ℕ
rows zero = []
rows (suc n) = row 0 absent ++ rows n
