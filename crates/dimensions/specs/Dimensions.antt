-- "A dimension holds its distribution, one of three kinds, and its internal bounds." Definitions only.
use Rattle.std.specs.Prelude.{ℕ, Bool, false, ◌&&◌, List, eqb, leb, get_or, Float, Err, Ok, Some, None}
use Rattle.std.specs.Float.{nan, binary64}
use Rattle.std.specs.Float.Ieee.{to_bits, of_bits}
use Rattle.distribution.specs.Shape.{continuous_of}
use Rattle.arith.specs.Lists.{every, places_of}
use Rattle.distribution.specs.declared.Distribution.{Distribution}
use Rattle.encoding.specs.Bounds.{InternalBounds, bounds_of}
use Rattle.dimensions.specs.declared.DimensionInfo.{DimensionInfo}

-- what lies past the end of a list of dimensions; an array of 20 has none of it
abbrev pub no_dimension : DimensionInfo
no_dimension = record { distribution = Distribution.Float (record { low = nan; high = nan; log_scale = false; step = None }); lo = nan; hi = nan }

abbrev pub dimension_at : List DimensionInfo → ℕ → DimensionInfo
dimension_at dims j = get_or dims j no_dimension

-- the same float, bit for bit
abbrev pub same_bits : Float → Float → Bool
same_bits a b = eqb (to_bits binary64 a) (to_bits binary64 b)

-- lo and hi are those bounds; a choice has +0 and +0, a malformed distribution none
abbrev pub bounds_are : InternalBounds → Float → Float → Bool
bounds_are (Ok (Some (a, b))) lo hi = same_bits a lo && same_bits b hi
bounds_are (Ok None) lo hi = same_bits (of_bits binary64 0) lo && same_bits (of_bits binary64 0) hi
bounds_are (Err n) lo hi = false

-- the dimension of a distribution; that of a malformed one is malformed
abbrev pub with_bounds : Distribution → InternalBounds → DimensionInfo
with_bounds d (Ok (Some (a, b))) = record { distribution = d; lo = a; hi = b }
with_bounds d (Ok None) = record { distribution = d; lo = of_bits binary64 0; hi = of_bits binary64 0 }
with_bounds d (Err n) = record { distribution = d; lo = of_bits binary64 0; hi = of_bits binary64 0 }

abbrev pub dimension_of : Distribution → DimensionInfo
dimension_of d = with_bounds d (bounds_of d)

unfoldable pub dimension_ok : DimensionInfo → Bool
dimension_ok d = bounds_are (bounds_of d.distribution) d.lo d.hi

-- at most 20 dimensions, each with its distribution's bounds
unfoldable pub dimensions_ok : List DimensionInfo → ℕ → Bool
unfolding dimension_ok
dimensions_ok dims k = leb k 20 && every k (λ j. dimension_ok (dimension_at dims j))

-- the continuous ones among the first k, in order: the model's columns
unfoldable pub columns_of : List DimensionInfo → ℕ → List ℕ
columns_of dims k = places_of k (λ j. continuous_of (dimension_at dims j).distribution)
