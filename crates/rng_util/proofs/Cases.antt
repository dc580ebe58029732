-- The definitions at single points, computed: document 01's words from 1, and what the Rust answers. Assumes nothing.
use mathlib.Core.Path.{◌≡◌, refl}
use mathlib.Core.Bool.{true, false}
use mathlib.Core.List.{[], ◌∷◌}
use Prim.Native.Nat.{◌^◌}
use lib.IntN.{pos, negsuc}
use Rattle.std.specs.Prelude.{Ok, Err}
use Rattle.refusal.specs.declared.Refusal.TheVariants.{OutOfDomain}
use lib.Ieee.{binary64, of_bits, of_int, round, div}
use Rattle.rng_util.specs.Generator.{xor_left, xor_right, next_of, moved_of, stream_of}
use Rattle.rng_util.specs.Draws.{unit_of, whole_of, range_ok, word_draw_of, unit_draw_of, whole_draw_of, drawn_by, word_after}

-- a bit shifted out on the left is gone
abbrev Words : Type 0
Words =
    (xor_left 13 1 ≡ 0x2001)
    × (xor_left 1 (2 ^ 63) ≡ 2 ^ 63)
    × (xor_right 7 0x80 ≡ 0x81)
    × (next_of 1 ≡ 0x40822041)
    × (moved_of 2 1 ≡ 0x100041060c011441)
    × (stream_of 2 1 ≡ 0x40822041 ∷ 0x100041060c011441 ∷ [])

words : Words
unfolding xor_left xor_right next_of moved_of stream_of
words = (refl, refl, refl, refl, refl, refl)

-- the value of a word: the low twelve bits of a unit float's are not read
abbrev Values : Type 0
Values =
    (unit_of (2 ^ 63) ≡ of_bits binary64 0x3fe0000000000000)
    × (unit_of 0xfff ≡ of_bits binary64 0)
    × (whole_of (negsuc 4) (pos 5) 0x40822041 ≡ negsuc 3)
    × (whole_of (pos 0) (pos 4) 0x40822041 ≡ pos 1)
    × (range_ok (negsuc 9007199254740991) (pos 9007199254740992) ≡ true)
    × (range_ok (pos 0) (pos 9007199254740993) ≡ false)
    × (range_ok (pos 1) (pos 0) ≡ false)

values : Values
unfolding unit_of whole_of range_ok of_bits of_int round div
values = (refl, refl, refl, refl, refl, refl, refl)

-- a draw, and a refused one
abbrev Drawn : Type 0
Drawn =
    (word_draw_of 1 ≡ Ok (record { value = 0x40822041; drawn = 1; next = 0x40822041 }))
    × (word_draw_of 0 ≡ Err OutOfDomain)
    × (unit_draw_of 0x40822041 ≡ Ok (record { value = of_bits binary64 0x3fb00041060c0110; drawn = 1; next = 0x100041060c011441 }))
    × (unit_draw_of 0 ≡ Err OutOfDomain)
    × (whole_draw_of 0x40822041 (pos 0) (pos 9) ≡ Ok (record { value = pos 5; drawn = 1; next = 0x100041060c011441 }))
    × (whole_draw_of 1 (pos 1) (pos 0) ≡ Err OutOfDomain)
    × (drawn_by (word_draw_of 0) ≡ 0)
    × (word_after 7 (whole_draw_of 7 (pos 1) (pos 0)) ≡ 7)

drawn : Drawn
unfolding word_draw_of unit_draw_of whole_draw_of unit_of whole_of range_ok next_of of_bits of_int round div
drawn = (refl, refl, refl, refl, refl, refl, refl, refl)
