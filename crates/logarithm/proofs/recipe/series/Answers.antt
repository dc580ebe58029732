use mathlib.Core.Path.{refl}
use lib.Ieee.{of_int, of_bits}
use Rattle.logarithm.specs.Ln.{series_of, series}
use Rattle.logarithm.proofs.recipe.series.Goals as goal

pub returns : goal.returns
unfolding series_of series of_int of_bits
returns c = refl
