use mathlib.Core.Path.{◌≡◌}
use Rattle.dimensions.specs.Dimensions.{columns_of}
use Rattle.history.specs.Places.{places_in}
use Rattle.history.proofs.columns.continuous.Given as goal

abbrev pub invariant-loop-j : goal.invariant-loop-j
invariant-loop-j l = l.places ≡ places_in (columns_of l.dims.list l.j)
