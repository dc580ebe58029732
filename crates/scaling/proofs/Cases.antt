-- The definitions at small points, computed; the words are what the unchanged Rust gives. Assumes nothing.
use Prim.Native.Nat.{ℕ}
use mathlib.Core.Path.{◌≡◌, refl}
use lib.IntN.{pos}
use lib.Ieee.{Float, binary64, of_bits, to_bits, round, add, sub, mul, div, lt, of_int}
use Rattle.scaling.specs.Scaling.{from_normalized_of, to_normalized_of}

abbrev float : ℕ → Float
float n = of_int binary64 (pos n)

abbrev word : ℕ → Float
word w = of_bits binary64 w

abbrev half : Float
half = word 0x3fe0000000000000

-- ---- scaling, between 1 and 4
abbrev Scaled : Type 0
Scaled =
    (to_bits binary64 (to_normalized_of (float 2) (float 1) (float 4)) ≡ 0x3fd5555555555555)
    -- bounds that are one
    × (to_normalized_of (float 3) (float 1) (float 1) ≡ half)
    × (to_bits binary64 (from_normalized_of (word 0x3fb999999999999a) (float 1) (float 4)) ≡ 0x3ff4cccccccccccd)

scaled : Scaled
unfolding to_normalized_of from_normalized_of of_bits to_bits round add sub mul div lt of_int
scaled = (refl, refl, refl)
