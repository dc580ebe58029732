use Prim.Native.Nat.{◌*◌}
use mathlib.Core.Path.{◌≡◌}
use Rattle.arith.specs.Lists.{list_of, filled}
use Rattle.rng_util.specs.Generator.{moved_of}
use Rattle.search.proofs.eights.starts.Given as goal

abbrev pub invariant-loop-p : goal.invariant-loop-p
invariant-loop-p l = (l.words ≡ filled 0 8 (list_of (λ p. moved_of (p * l.d) l.word) l.p)) × (l.next ≡ moved_of (l.p * l.d) l.word)
