use Prim.Native.Nat.{}
use mathlib.Core.Path.{◌≡◌}
use lib.ListN.{get_or}
use Rattle.arith.specs.Lists.{list_of, filled, padded}
use Rattle.rng_util.specs.Draws.{unit_of}
use Rattle.rng_util.specs.Generator.{moved_of}
use Rattle.search.proofs.eights.column.Given as goal

abbrev pub invariant-loop-p : goal.invariant-loop-p
invariant-loop-p l = (l.values ≡ padded 8 (list_of (λ p. unit_of (moved_of 1 (get_or l.words p 0))) l.p)) × (l.next ≡ filled 0 8 (list_of (λ p. moved_of 1 (get_or l.words p 0)) l.p))
