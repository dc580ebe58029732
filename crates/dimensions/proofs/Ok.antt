-- What well-formed dimensions are: at most 20, each with its distribution's bounds. Assumes nothing.
use Prim.Native.Nat.{ℕ, ◌≤◌, ◌<◌}
use mathlib.Core.List.{List}
use lib.Dec.{T, leb→le}
use Rattle.arith.proofs.Lists.{every-each}
use Rattle.distribution.proofs.Facts.{parts}
use Rattle.dimensions.specs.declared.DimensionInfo.{DimensionInfo}
use Rattle.dimensions.specs.Dimensions.{dimension_at, dimension_ok, dimensions_ok}

pub dimensions-ok : (dims : List DimensionInfo) (k : ℕ) → T (dimensions_ok dims k) → (k ≤ 20) × ((j : ℕ) → j < k → T (dimension_ok (dimension_at dims j)))
unfolding dimensions_ok
dimensions-ok dims k t = (leb→le k 20 (search parts), every-each k (λ j. dimension_ok (dimension_at dims j)) (search parts))
