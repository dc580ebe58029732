-- "Taken: float finite, magnitude ≤ 2^53, with log ≥ 2^-53; int magnitude ≤ 2^52, with log ≥ 1; choice below the count."
-- Definitions only.
use Rattle.std.specs.Prelude.{ℕ, ◌^◌, Bool, false, ltb, ℤ, pos, negsuc, neg_ℤ, Float}
use Rattle.std.specs.Int.Signed.{le_z}
use Rattle.std.specs.Float.{binary64}
use Rattle.std.specs.Float.Ieee.{le, neg, of_bits}
use Rattle.std.specs.Int.{w64, cast_signed}
use Rattle.distribution.specs.declared.Distribution.{Distribution}
use Rattle.distribution.specs.declared.ParamValue.{ParamValue}
use Rattle.distribution.specs.Shape.{power, ranged}

unfoldable pub float_taken : Bool → Float → Bool
float_taken log v = ranged le (neg (power (pos 53))) (power (pos 53)) (power (negsuc 52)) log v

unfoldable pub int_taken : Bool → ℤ → Bool
int_taken log v = ranged le_z (neg_ℤ (pos (2 ^ 52))) (pos (2 ^ 52)) (pos 1) log v

-- a value of another kind is never taken
unfoldable pub taken_of : Distribution → ParamValue → Bool
unfolding float_taken int_taken
taken_of (Distribution.Float d) (ParamValue.Float v) = float_taken d.log_scale v
taken_of (Distribution.Float d) (ParamValue.Int v) = false
taken_of (Distribution.Float d) (ParamValue.Categorical v) = false
taken_of (Distribution.Int d) (ParamValue.Float v) = false
taken_of (Distribution.Int d) (ParamValue.Int v) = int_taken d.log_scale v
taken_of (Distribution.Int d) (ParamValue.Categorical v) = false
taken_of (Distribution.Categorical d) (ParamValue.Float v) = false
taken_of (Distribution.Categorical d) (ParamValue.Int v) = false
taken_of (Distribution.Categorical d) (ParamValue.Categorical v) = ltb v d.n_choices

-- a word read as a value of the distribution's kind
unfoldable pub value_of : Distribution → ℕ → ParamValue
value_of (Distribution.Float d) w = ParamValue.Float (of_bits binary64 w)
value_of (Distribution.Int d) w = ParamValue.Int (cast_signed w64 w)
value_of (Distribution.Categorical d) w = ParamValue.Categorical w
