-- "Distributions are equal as Rust's `PartialEq` says, so +0 equals −0": field by field, a step only where there is one.
-- Definitions only.
use Rattle.std.specs.Prelude.{Bool, false, ◌&&◌, eqb}
use Rattle.std.specs.Bool.{beq}
use Rattle.std.specs.Float.Ieee.{eq}
use Rattle.std.specs.Option.{option_eq}
use Rattle.std.specs.Ordering.{int_eq}
use Rattle.distribution.specs.declared.NumberDistribution.{NumberDistribution}
use Rattle.distribution.specs.declared.Distribution.{Distribution}

-- by the equality of the numbers
abbrev pub number_equal : {A : Type 0} → (A → A → Bool) → NumberDistribution A → NumberDistribution A → Bool
number_equal e a b = e a.low b.low && e a.high b.high && beq a.log_scale b.log_scale && option_eq e a.step b.step

unfoldable pub equal_of : Distribution → Distribution → Bool
equal_of (Distribution.Float a) (Distribution.Float b) = number_equal eq a b
equal_of (Distribution.Float a) (Distribution.Int b) = false
equal_of (Distribution.Float a) (Distribution.Categorical b) = false
equal_of (Distribution.Int a) (Distribution.Float b) = false
equal_of (Distribution.Int a) (Distribution.Int b) = number_equal int_eq a b
equal_of (Distribution.Int a) (Distribution.Categorical b) = false
equal_of (Distribution.Categorical a) (Distribution.Float b) = false
equal_of (Distribution.Categorical a) (Distribution.Int b) = false
equal_of (Distribution.Categorical a) (Distribution.Categorical b) = eqb a.n_choices b.n_choices
