-- Small dimensions and rows, for cases computed: one slot is an int from 0 to 4, another an int from 0 to 8. Definitions only.
use Rattle.std.specs.Prelude.{None}
use Prim.Native.Nat.{ℕ}
use mathlib.Core.Bool.{false}
use mathlib.Core.List.{List, [], ◌∷◌, ◌++◌}
use lib.IntN.{pos}
use Rattle.distribution.specs.declared.Distribution.{Distribution}
use Rattle.dimensions.specs.declared.DimensionInfo.{DimensionInfo}
use Rattle.dimensions.specs.Dimensions.{dimension_of}
use Rattle.history_rows.proofs.Samples.{slot, absent, row}

abbrev pub int : ℕ → Distribution
int high = Distribution.Int (record { low = pos 0; high = pos high; log_scale = false; step = None })

abbrev pub choice : ℕ → ℕ → ℕ → List ℕ
choice id n v = id ∷ 3 ∷ n ∷ 0 ∷ 0 ∷ 0 ∷ 0 ∷ v ∷ []

abbrev pub choices : ℕ → Distribution
choices n = Distribution.Categorical (record { n_choices = n })

abbrev pub dims : List DimensionInfo
dims = dimension_of (int 4) ∷ dimension_of (choices 3) ∷ dimension_of (int 4) ∷ []

-- the first row has the choice under 1 and the ints under 9 and 4
abbrev pub first : List ℕ
first = row 0 (slot 9 4 1 ++ choice 1 3 2 ++ slot 4 4 2)

-- the second lacks id 9; the third has the slots in another order
abbrev pub second : List ℕ
second = row 0 (slot 4 4 3 ++ absent ++ absent)

abbrev pub third : List ℕ
third = 8 ∷ 3 ∷ 0x4000000000000000 ∷ (slot 4 4 4 ++ slot 9 4 3 ++ absent)
