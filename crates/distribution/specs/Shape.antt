-- Document 01, "Distribution": which are well-formed. Every limit on a float is a comparison of floats, so a NaN fails.
-- Definitions only.
use Rattle.refusal.specs.declared.Refusal.TheVariants.{OutOfDomain}
use Rattle.refusal.specs.declared.Refusal.{Refusal}
use Rattle.std.specs.Prelude.{◌^◌, Bool, true, false, not, ◌&&◌, ◌||◌, cond, leb, ℤ, pos, negsuc, neg_ℤ, Float, Result, Ok, Err}
use Rattle.std.specs.Option.{option_map_or}
use Rattle.std.specs.Int.Signed.{le_z}
use Rattle.std.specs.Float.{inf, fin, binary64}
use Rattle.std.specs.Float.Ieee.{sub, div, neg, lt, le}
use Rattle.arith.specs.Rounding.{floor_of}
use Rattle.distribution.specs.declared.NumberDistribution.{NumberDistribution}
use Rattle.distribution.specs.declared.CategoricalDistribution.{CategoricalDistribution}
use Rattle.distribution.specs.declared.Distribution.{Distribution}
use Rattle.distribution.specs.Numbers.{FloatDistribution, IntDistribution}

-- 2 ^ k
abbrev pub power : ℤ → Float
power k = fin false 1 k

-- at most b in magnitude, so finite; and the same of a whole number
abbrev pub within : Float → Float → Bool
within b x = le (neg b) x && le x b

abbrev pub within_z : ℤ → ℤ → Bool
within_z b z = le_z (neg_ℤ b) z && le_z z b

-- a number from least to most by an order, and on log scale at least first
abbrev pub ranged : {A : Type 0} → (A → A → Bool) → A → A → A → Bool → A → Bool
ranged below least most first log x = below least x && below x most && (not log || below first x)

-- both ends so, and in order
abbrev pub ends : {A : Type 0} → (A → A → Bool) → A → A → A → NumberDistribution A → Bool
ends below least most first d =
    ranged below least most first d.log_scale d.low && ranged below least most first false d.high && below d.low d.high

-- "Step is finite, at least 2^-52, with floor((high − low)/step) ≤ 2^52."
unfoldable pub float_step : Float → Float → Float → Bool
float_step low high step =
    le (power (negsuc 51)) step && lt step (inf false)
    && le (floor_of (div binary64 (sub binary64 high low) step)) (power (pos 52))

-- "Float: finite, low ≤ high, both at most 2^52 in magnitude. Log needs low ≥ 2^-52."
unfoldable pub float_shape : FloatDistribution → Bool
unfolding float_step
float_shape d =
    ends le (neg (power (pos 52))) (power (pos 52)) (power (negsuc 51)) d
    && option_map_or (float_step d.low d.high) d.step true

-- "step 1 to 2^52"
unfoldable pub int_step : ℤ → Bool
int_step step = le_z (pos 1) step && le_z step (pos (2 ^ 52))

-- "Int: the same magnitude and order, log needs low ≥ 1"
unfoldable pub int_shape : IntDistribution → Bool
unfolding int_step
int_shape d = ends le_z (neg_ℤ (pos (2 ^ 52))) (pos (2 ^ 52)) (pos 1) d && option_map_or int_step d.step true

-- "Choice: low is the number of choices, 1 to 2^32"
unfoldable pub categorical_shape : CategoricalDistribution → Bool
categorical_shape d = leb 1 d.n_choices && leb d.n_choices (2 ^ 32)

unfoldable pub shape_of : Distribution → Bool
unfolding float_shape int_shape categorical_shape
shape_of (Distribution.Float d) = float_shape d
shape_of (Distribution.Int d) = int_shape d
shape_of (Distribution.Categorical d) = categorical_shape d

-- what is answered where a test of shapes holds: "malformed distributions are 11"
abbrev pub where_formed : {A : Type 0} → Bool → A → Result A Refusal
where_formed formed x = cond formed (Ok x) (Err OutOfDomain)

-- "A dimension is continuous unless it is a choice."
abbrev pub continuous_of : Distribution → Bool
continuous_of (Distribution.Float d) = true
continuous_of (Distribution.Int d) = true
continuous_of (Distribution.Categorical d) = false
