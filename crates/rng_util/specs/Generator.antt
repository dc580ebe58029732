-- The generator: document 01, "one word, lent to a draw and moved on there".
use Rattle.std.specs.Prelude.{ℕ, zero, suc, ◌*◌, ◌/◌, ◌%◌, ◌^◌, ◌<◌, List, [], ◌∷◌}
use Rattle.std.specs.Int.Bits.{bit_xor}

-- x exclusive-or itself shifted left by k, in 64 bits
unfoldable pub xor_left : ℕ → ℕ → ℕ
xor_left k x = bit_xor x (x * 2 ^ k % 2 ^ 64)

-- x exclusive-or itself shifted right by k
unfoldable pub xor_right : ℕ → ℕ → ℕ
xor_right k x = bit_xor x (x / 2 ^ k)

-- "exclusive-or with itself shifted left 13, right 7, left 17 (Marsaglia, 64 bits)". "The new state is the word drawn."
unfoldable pub next_of : ℕ → ℕ
unfolding xor_left xor_right
next_of w = xor_left 17 (xor_right 7 (xor_left 13 w))

-- the word after n moves
unfoldable pub moved_of : ℕ → ℕ → ℕ
moved_of zero w = w
moved_of (suc n) w = next_of (moved_of n w)

-- the next n words drawn, the first one first
unfoldable pub stream_of : ℕ → ℕ → List ℕ
stream_of zero w = []
stream_of (suc n) w = next_of w ∷ stream_of n (next_of w)

-- a word of 64 bits that is not zero: no draw refuses it
abbrev pub Nonzero : ℕ → Type 0
Nonzero w = (0 < w) × (w < 2 ^ 64)
