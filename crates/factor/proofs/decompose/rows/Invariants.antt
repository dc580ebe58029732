use mathlib.Core.Path.{◌≡◌}
use mathlib.Core.Bool.{true}
use Rattle.arith.specs.Lists.{padded}
use Rattle.factor.specs.Triangle.{entry, rows_of}
use Rattle.factor.specs.Cholesky.{factor_of, positive}
use Rattle.factor.proofs.decompose.rows.Given as goal

abbrev pub invariant-loop-i : goal.invariant-loop-i
invariant-loop-i l = (l.l ≡ padded 5050 (rows_of (factor_of (entry l.a)) l.i)) × (positive (entry l.a) l.i ≡ true)
