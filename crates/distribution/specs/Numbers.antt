-- The distributions of floats and of integers, by the names that the code gives them. Definitions only.
use Rattle.std.specs.Prelude.{ℤ, Float}
use Rattle.distribution.specs.declared.NumberDistribution.{NumberDistribution}

abbrev pub FloatDistribution : Type 0
FloatDistribution = NumberDistribution Float

abbrev pub IntDistribution : Type 0
IntDistribution = NumberDistribution ℤ
