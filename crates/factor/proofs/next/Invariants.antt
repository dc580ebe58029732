use mathlib.Core.Path.{◌≡◌}
use lib.ListN.{get_or}
use lib.Ieee.{nan}
use Rattle.factor.specs.Triangle.{entry, less_of}
use Rattle.factor.proofs.next.Given as goal

abbrev pub invariant-loop-k : goal.invariant-loop-k
invariant-loop-k l = l.s ≡ less_of l.k (entry l.l l.i) (λ n. get_or l.z n nan) (get_or l.b l.i nan)
