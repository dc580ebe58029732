-- `internal_bounds` of common.rs: the ends of a distribution in the model's space, their logarithms on log scale. A choice has none, and a malformed distribution is 11. Definitions only.
use Rattle.refusal.specs.declared.Refusal.TheVariants.{OutOfDomain}
use Rattle.refusal.specs.declared.Refusal.{Refusal}
use Rattle.std.specs.Prelude.{Bool, cond, Float, Option, Result, Ok, Err, Some, None}
use Rattle.std.specs.Float.{binary64}
use Rattle.std.specs.Float.Ieee.{of_int}
use Rattle.logarithm.specs.Ln.{ln_of}
use Rattle.arith.specs.Outcome.{pick}
use Rattle.distribution.specs.declared.Distribution.{Distribution}
use Rattle.distribution.specs.Shape.{shape_of}

-- the ends, none for a choice, or a refusal
abbrev pub InternalBounds : Type 0
InternalBounds = Result (Option (Float × Float)) Refusal

-- two answers, or the first refusal
abbrev pub pair_of : Result Float Refusal → Result Float Refusal → InternalBounds
pair_of (Ok lo) (Ok hi) = Ok (Some (lo, hi))
pair_of (Ok lo) (Err r) = Err r
pair_of (Err r) hi = Err r

-- a value, or on log scale its logarithm
abbrev pub scale_of : Bool → Float → Result Float Refusal
scale_of log x = pick log (ln_of x) (Ok x)

unfoldable pub ends_of : Distribution → InternalBounds
ends_of (Distribution.Float d) = pair_of (scale_of d.log_scale d.low) (scale_of d.log_scale d.high)
ends_of (Distribution.Int d) = pair_of (scale_of d.log_scale (of_int binary64 d.low)) (scale_of d.log_scale (of_int binary64 d.high))
ends_of (Distribution.Categorical d) = Ok None

unfoldable pub bounds_of : Distribution → InternalBounds
unfolding ends_of
bounds_of d = cond (shape_of d) (ends_of d) (Err OutOfDomain)
