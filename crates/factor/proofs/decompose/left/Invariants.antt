use mathlib.Core.Path.{◌≡◌}
use Rattle.arith.specs.Lists.{padded}
use Rattle.factor.specs.Triangle.{entry}
use Rattle.factor.specs.Cholesky.{factor_of}
use Rattle.factor.proofs.Triangle.{filled}
use Rattle.factor.proofs.decompose.left.Given as goal

abbrev pub invariant-loop-j : goal.invariant-loop-j
invariant-loop-j l = l.l ≡ padded 5050 (filled (factor_of (entry l.a)) l.i l.j)
