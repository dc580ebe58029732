use Prim.Native.Nat.{}
use mathlib.Core.Path.{◌≡◌}
use Rattle.arith.specs.Lists.{padded}
use Rattle.rng_util.specs.Generator.{moved_of}
use Rattle.search.specs.Search.{point_of}
use Rattle.search.proofs.searching.draw.Given as goal

abbrev pub invariant-loop-j : goal.invariant-loop-j
invariant-loop-j l =
    (l.x ≡ padded 20 (point_of l.j l.word)) × (l.next ≡ moved_of l.j l.word)
