-- `to_internal` of common.rs: a parameter's value in the model's space. "`to_internal` of a choice or a mismatched kind is +0; otherwise its value obeys the Taken rule, else 11." Definitions only.
use Rattle.refusal.specs.declared.Refusal.TheVariants.{OutOfDomain}
use Rattle.refusal.specs.declared.Refusal.{Refusal}
use Rattle.std.specs.Prelude.{Float, Result, Ok, Err}
use Rattle.std.specs.Float.{binary64}
use Rattle.std.specs.Float.Ieee.{of_bits, of_int}
use Rattle.arith.specs.Outcome.{pick}
use Rattle.distribution.specs.declared.Distribution.{Distribution}
use Rattle.distribution.specs.declared.ParamValue.{ParamValue}
use Rattle.distribution.specs.Shape.{shape_of}
use Rattle.distribution.specs.Taken.{taken_of}
use Rattle.encoding.specs.Bounds.{scale_of}

abbrev pub zero : Result Float Refusal
zero = Ok (of_bits binary64 0)

unfoldable pub encoded_of : ParamValue → Distribution → Result Float Refusal
encoded_of (ParamValue.Float v) (Distribution.Float d) = pick (taken_of (Distribution.Float d) (ParamValue.Float v)) (scale_of d.log_scale v) (Err OutOfDomain)
encoded_of (ParamValue.Float v) (Distribution.Int d) = zero
encoded_of (ParamValue.Float v) (Distribution.Categorical d) = zero
encoded_of (ParamValue.Int v) (Distribution.Float d) = zero
encoded_of (ParamValue.Int v) (Distribution.Int d) = pick (taken_of (Distribution.Int d) (ParamValue.Int v)) (scale_of d.log_scale (of_int binary64 v)) (Err OutOfDomain)
encoded_of (ParamValue.Int v) (Distribution.Categorical d) = zero
encoded_of (ParamValue.Categorical v) (Distribution.Float d) = zero
encoded_of (ParamValue.Categorical v) (Distribution.Int d) = zero
encoded_of (ParamValue.Categorical v) (Distribution.Categorical d) = zero

unfoldable pub to_internal_of : ParamValue → Distribution → Result Float Refusal
unfolding encoded_of
to_internal_of v d = pick (shape_of d) (encoded_of v d) (Err OutOfDomain)
