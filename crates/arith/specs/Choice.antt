-- "Positive part, Rust's `max(0.0)`: v if v > 0, else +0, NaN included. Floors likewise; a least value keeps the earlier unless the later is less." Definitions only.
use Rattle.std.specs.Prelude.{ℕ, zero, suc, false, cond, List, length, from_bits, slice_index_or, Float}
use Rattle.std.specs.Float.{nan, inf, binary64}
use Rattle.std.specs.Float.Ieee.{lt}

-- v if v is above the limit, else the limit
abbrev pub at_least : Float → Float → Float
at_least limit v = cond (lt limit v) v limit

abbrev pub positive_part : Float → Float
positive_part v = at_least (from_bits binary64 0) v

abbrev pub lesser_of : Float → Float → Float
lesser_of earlier later = cond (lt later earlier) later earlier

-- the least of the first n values, from +infinity
unfoldable pub least_of_first : List Float → ℕ → Float
least_of_first xs zero = inf false
least_of_first xs (suc n) = lesser_of (least_of_first xs n) (slice_index_or xs n nan)

abbrev pub least_of : List Float → Float
least_of xs = least_of_first xs (length xs)
