use mathlib.Core.Path.{◌≡◌}
use Rattle.arith.specs.Lists.{list_of, padded}
use Rattle.gp_model.specs.Statistics.{lengthscale_of}
use Rattle.gp_model.proofs.statistics.lengthscales.Given as goal

abbrev pub invariant-loop-j : goal.invariant-loop-j
invariant-loop-j l = l.out ≡ padded 20 (list_of (lengthscale_of l.x.cells.now l.x.n l.x.d) l.j)
