use mathlib.Core.Path.{◌≡◌}
use Rattle.arith.specs.Lists.{list_of, padded}
use Rattle.gp_model.specs.Statistics.{standard_of}
use Rattle.gp_model.proofs.statistics.standardized.Given as goal

abbrev pub invariant-loop-i : goal.invariant-loop-i
invariant-loop-i l = l.out ≡ padded 100 (list_of (standard_of l.y) l.i)
