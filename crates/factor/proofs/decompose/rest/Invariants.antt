use mathlib.Core.Path.{◌≡◌}
use Rattle.factor.specs.Triangle.{entry, less_of}
use Rattle.factor.proofs.decompose.rest.Given as goal

abbrev pub invariant-loop-k : goal.invariant-loop-k
invariant-loop-k l = l.s ≡ less_of l.k (entry l.l l.i) (entry l.l l.j) l.a
