-- `from_internal` of common.rs: a value of the model's space as a parameter's value. "Decode accepts finite values from lo − 1 to hi + 1 (internal bounds), else 11". Definitions only.
use Rattle.refusal.specs.declared.Refusal.{Refusal}
use Rattle.refusal.specs.declared.Refusal.TheVariants.{OutOfDomain}
use Rattle.std.specs.Prelude.{Bool, false, ◌&&◌, cond, pos, Float, Result, Ok, Err, Some, None}
use Rattle.std.specs.Float.{binary64}
use Rattle.std.specs.Float.Ieee.{add, sub, lt, le, of_int}
use Rattle.std.specs.Int.Signed.{lt_z}
use Rattle.exponential.specs.Exp.{exp_of}
use Rattle.arith.specs.Outcome.{pick, made}
use Rattle.distribution.specs.Numbers.{FloatDistribution, IntDistribution}
use Rattle.distribution.specs.declared.Distribution.{Distribution}
use Rattle.distribution.specs.declared.ParamValue.{ParamValue}
use Rattle.encoding.specs.Bounds.{InternalBounds, bounds_of}
use Rattle.common.specs.Grid.{clamp_of, float_grid, int_grid}

-- a value, or on log scale its exponential
abbrev pub unscale_of : Bool → Float → Result Float Refusal
unscale_of log x = pick log (exp_of x) (Ok x)

-- what is on the grid and between the ends
abbrev pub float_of : FloatDistribution → Float → ParamValue
float_of d v = ParamValue.Float (clamp_of lt d.low d.high (float_grid d v))

abbrev pub int_of : IntDistribution → Float → ParamValue
int_of d v = ParamValue.Int (clamp_of lt_z d.low d.high (int_grid d v))

-- a choice has no decoding: the Rust's `unreachable!` is 11
unfoldable pub decoded_of : Float → Distribution → Result ParamValue Refusal
decoded_of x (Distribution.Float d) = made (float_of d) (unscale_of d.log_scale x)
decoded_of x (Distribution.Int d) = made (int_of d) (unscale_of d.log_scale x)
decoded_of x (Distribution.Categorical d) = Err OutOfDomain

abbrev pub one : Float
one = of_int binary64 (pos 1)

abbrev pub inside : InternalBounds → Float → Bool
inside (Ok (Some (lo, hi))) x = le (sub binary64 lo one) x && le x (add binary64 hi one)
inside (Ok None) x = false
inside (Err r) x = false

unfoldable pub from_internal_of : Float → Distribution → Result ParamValue Refusal
unfolding decoded_of
from_internal_of x d = cond (inside (bounds_of d) x) (decoded_of x d) (Err OutOfDomain)
