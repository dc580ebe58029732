-- A new trial's values, dimension by dimension. Definitions only.
use Rattle.std.specs.Prelude.{ℕ, zero, suc, ◌+◌, cond, List, [], ◌∷◌, ◌++◌, ◌≡◌, length, get_or, Float, Option, Some, None, Result, Ok}
use Rattle.std.specs.Float.{nan}
use Rattle.refusal.specs.declared.Refusal.{Refusal}
use Rattle.arith.specs.Lists.{filled}
use Rattle.arith.specs.Outcome.{made, and_then}
use Rattle.rng_util.specs.declared.Draw.{Draw}
use Rattle.distribution.specs.Shape.{continuous_of}
use Rattle.distribution.specs.declared.Distribution.{Distribution}
use Rattle.distribution.specs.declared.ParamValue.{ParamValue}
use Rattle.common.specs.Decode.{from_internal_of}
use Rattle.common.specs.Random.{sample_random_of}
use Rattle.scaling.specs.Scaling.{from_normalized_of}
use Rattle.dimensions.specs.declared.DimensionInfo.{DimensionInfo}
use Rattle.dimensions.specs.Dimensions.{dimension_at, columns_of}
use Rattle.dimensions.specs.Empty.{empty_value}

-- "Decoding scales each to the internal bounds as `gp.rs` does, then applies `from_internal`."
abbrev pub decode_of : DimensionInfo → Float → Result ParamValue Refusal
decode_of d u = from_internal_of (from_normalized_of u d.lo d.hi) d.distribution

-- a coordinate of a point, where there is one
abbrev pub coordinate_of : Option (List Float) → ℕ → Option Float
coordinate_of (Some x) c = Some (get_or x c nan)
coordinate_of None c = None

-- v is drawn from that distribution at the generator's word w
pub record DrawnFrom (w : ℕ) (d : Distribution) (v : ParamValue) : Type 0 where
  pub draw : Draw ParamValue
  pub drawn : sample_random_of w d ≡ Ok draw
  pub value : v ≡ draw.value

-- a value that takes no word
abbrev pub undrawn : ℕ → ParamValue → Draw ParamValue
undrawn w v = record { value = v; drawn = 0; next = w }

-- a dimension's value at a generator word: a continuous dimension's is the decoding of its coordinate, where there is
-- one; any other is random
unfoldable pub step_of : DimensionInfo → Option Float → ℕ → Result (Draw ParamValue) Refusal
step_of d (Some u) w =
    cond (continuous_of d.distribution) (made (undrawn w) (decode_of d u)) (sample_random_of w d.distribution)
step_of d None w = sample_random_of w d.distribution

-- the values of some dimensions
abbrev pub Values : Type 0
Values = Draw (List ParamValue)

-- one value more
abbrev pub walk_more : Values → Draw ParamValue → Values
walk_more b r = record { value = b.value ++ (r.value ∷ []); drawn = b.drawn + r.drawn; next = r.next }

-- the step of dimension j; the coordinates of the point are those of the continuous dimensions in order
abbrev pub step_at : Option (List Float) → List DimensionInfo → ℕ → ℕ → Result (Draw ParamValue) Refusal
step_at point dims j w = step_of (dimension_at dims j) (coordinate_of point (length (columns_of dims j))) w

-- the first j dimensions, one after the other; a refused one refuses them all
unfoldable pub walk_of : Option (List Float) → List DimensionInfo → ℕ → ℕ → Result Values Refusal
unfolding step_of
walk_of point dims zero w = Ok (record { value = []; drawn = 0; next = w })
walk_of point dims (suc j) w =
    and_then (walk_of point dims j w) (λ b. made (walk_more b) (step_at point dims j b.next))

-- in an array of 20
abbrev pub values_in : Values → Values
values_in b = record { value = filled empty_value 20 b.value; drawn = b.drawn; next = b.next }

abbrev pub walked_of : Option (List Float) → List DimensionInfo → ℕ → ℕ → Result Values Refusal
walked_of point dims j w = made values_in (walk_of point dims j w)
