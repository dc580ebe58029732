-- A slot reads as a well-formed distribution, or as none. Assumes nothing.
use Rattle.std.specs.Prelude.{Some}
use Prim.Native.Nat.{ℕ}
use mathlib.Core.Path.{◌≡◌}
use mathlib.Core.Bool.{true}
use mathlib.Core.List.{List}
use lib.ListN.{get_or}
use lib.Ieee.Bits.{is_true}
use Rattle.distribution.specs.declared.Distribution.{Distribution}
use Rattle.distribution.specs.Shape.{shape_of}
use Rattle.distribution_words.proofs.RoundTrip.{read_held}
use Rattle.slots.specs.Slot.{slot_read}

pub read_formed : (slot : List ℕ) (d : Distribution) → slot_read slot ≡ Some d → shape_of d ≡ true
unfolding slot_read
read_formed slot d e =
    is_true (shape_of d) (read_held (get_or slot 1 0) (get_or slot 2 0) (get_or slot 3 0) (get_or slot 4 0) (get_or slot 5 0) (get_or slot 6 0) d e).1
