use Prim.Native.Nat.{}
use mathlib.Core.Path.{◌≡◌}
use Rattle.search.specs.Eights.{kept_each_of}
use Rattle.search.proofs.eights.kept_each.Given as goal

abbrev pub invariant-loop-p : goal.invariant-loop-p
invariant-loop-p l = (l.s ≡ kept_each_of l.d l.words l.ei l.p l.initial.s)
