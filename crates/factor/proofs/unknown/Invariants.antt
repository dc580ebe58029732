use Prim.Native.Nat.{◌+◌, ◌-◌}
use mathlib.Core.Path.{◌≡◌}
use lib.ListN.{get_or}
use lib.Ieee.{nan}
use Rattle.factor.specs.Triangle.{entry, less_of}
use Rattle.factor.proofs.unknown.Given as goal

abbrev pub invariant-loop-q : goal.invariant-loop-q
invariant-loop-q l = l.s ≡ less_of (l.q - (l.i + 1)) (λ k. entry l.l (l.i + 1 + k) l.i) (λ k. get_or l.x (l.i + 1 + k) nan) (get_or l.x l.i nan)
