-- Whether a value is in range of a distribution: what a draw and a decoding answer, and what a place may store.
-- Definitions and a statement only.
use Rattle.std.specs.Prelude.{Bool, false, ◌&&◌, T, ltb}
use Rattle.std.specs.Int.Signed.{le_z}
use Rattle.std.specs.Float.Ieee.{le}
use Rattle.distribution.specs.declared.Distribution.{Distribution}
use Rattle.distribution.specs.declared.ParamValue.{ParamValue}
use Rattle.distribution.specs.Shape.{shape_of}
use Rattle.distribution.specs.Taken.{taken_of}

-- a float and an int from low to high, a choice below the count; a value of another kind never
abbrev pub in_range : Distribution → ParamValue → Bool
in_range (Distribution.Float d) (ParamValue.Float v) = le d.low v && le v d.high
in_range (Distribution.Float d) (ParamValue.Int z) = false
in_range (Distribution.Float d) (ParamValue.Categorical i) = false
in_range (Distribution.Int d) (ParamValue.Float v) = false
in_range (Distribution.Int d) (ParamValue.Int z) = le_z d.low z && le_z z d.high
in_range (Distribution.Int d) (ParamValue.Categorical i) = false
in_range (Distribution.Categorical d) (ParamValue.Float v) = false
in_range (Distribution.Categorical d) (ParamValue.Int z) = false
in_range (Distribution.Categorical d) (ParamValue.Categorical i) = ltb i d.n_choices

-- a value in range of a well-formed distribution may stand in a history under it
abbrev pub InRangeTaken : Type 0
InRangeTaken = (d : Distribution) (v : ParamValue) → T (shape_of d) → T (in_range d v) → T (taken_of d v)
