use mathlib.Core.Path.{◌≡◌}
use lib.ListN.{length}
use Rattle.std.specs.Prelude.{Ok}
use Rattle.dimensions.specs.Dimensions.{columns_of}
use Rattle.proposal.specs.Values.{walked_of}
use Rattle.proposal.proofs.walking.walk.Given as goal

abbrev pub invariant-loop-j : goal.invariant-loop-j
invariant-loop-j l =
    (walked_of l.point l.dims.list l.j l.word ≡ Ok (record { value = l.value; drawn = l.drawn; next = l.next })) × (l.c ≡ length (columns_of l.dims.list l.j))
