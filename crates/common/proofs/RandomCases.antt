-- Random floats about the ends, computed: clamped from above and from below on log scale, at a last step, not between the ends, and an equal zero keeps its sign. Assumes nothing.
use Prim.Native.Nat.{ℕ}
use mathlib.Core.Path.{◌≡◌, refl}
use mathlib.Core.Bool.{Bool, true, false}
use lib.Ieee.{Float, binary64, of_bits, to_bits, of_int, to_signed, round, add, sub, mul, div, le, lt, eq, neg, is_nan, fits}
use Rattle.std.specs.Prelude.{Option, Some, None, Result, Ok}
use Rattle.refusal.specs.declared.Refusal.{Refusal}
use Rattle.arith.specs.Rounding.{nearest_of, round_of, floor_of}
use Rattle.exponential.specs.Exp.{exp_of, scaled_of, reduced_of, horner_of, whole_of as whole_power}
use Rattle.logarithm.specs.Ln.{ln_of, halved_of, series_of, series, normal, field, digits, mantissa_of, exponent_of}
use Rattle.rng_util.specs.declared.Draw.{Draw}
use Rattle.rng_util.specs.Draws.{unit_of, word_draw_of, unit_draw_of, whole_draw_of, whole_of, range_ok}
use Rattle.rng_util.specs.Generator.{next_of}
use Rattle.distribution.specs.declared.Distribution.{Distribution}
use Rattle.distribution.specs.declared.ParamValue.{ParamValue}
use Rattle.distribution.specs.Shape.{shape_of, float_shape, float_step}
use Rattle.encoding.specs.Bounds.{bounds_of, ends_of}
use Rattle.common.specs.Grid.{float_grid}
use Rattle.common.specs.Random.{sample_random_of, random_of, float_random, unclamped_random, log_float_random, stepped_float_random, linear_float_random}

abbrev float : ℕ → ℕ → Bool → Option Float → Distribution
float low high log step = Distribution.Float (record { low = of_bits binary64 low; high = of_bits binary64 high; log_scale = log; step = step })

abbrev step : ℕ → Option Float
step w = Some (of_bits binary64 w)

-- a float drawn for one word, and the generator's word after it
abbrev drawn : ℕ → ℕ → Result (Draw ParamValue) Refusal
drawn v next = Ok (record { value = ParamValue.Float (of_bits binary64 v); drawn = 1; next = next })

-- generator words whose next one is the greatest and the least, so that the unit float is next to 1, and 0
abbrev last : ℕ
last = 0x6a2b51650bc99dc4

abbrev first : ℕ
first = 0xbe6df32f185a864d

abbrev Clamped : Type 0
Clamped =
    -- on log scale: above 100 and 10, below 0.0001 and 20; of one point below 2^52, above 0.1 and 2^-52
    (sample_random_of last (float 0x4024000000000000 0x4059000000000000 true None) ≡ drawn 0x4059000000000000 0xffffffffffffffff)
    × (sample_random_of last (float 0x4014000000000000 0x4024000000000000 true None) ≡ drawn 0x4024000000000000 0xffffffffffffffff)
    × (sample_random_of first (float 0x3f1a36e2eb1c432d 0x3fb999999999999a true None) ≡ drawn 0x3f1a36e2eb1c432d 1)
    × (sample_random_of first (float 0x4034000000000000 0x4054000000000000 true None) ≡ drawn 0x4034000000000000 1)
    × (sample_random_of first (float 0x4330000000000000 0x4330000000000000 true None) ≡ drawn 0x4330000000000000 1)
    × (sample_random_of first (float 0x3fb999999999999a 0x3fb999999999999a true None) ≡ drawn 0x3fb999999999999a 1)
    × (sample_random_of first (float 0x3cb0000000000000 0x3cb0000000000000 true None) ≡ drawn 0x3cb0000000000000 1)
    -- in steps of 7 from 10 the nearest to 100 is 101; 35 steps of 0.01 lie above 0.35
    × (sample_random_of last (float 0x4024000000000000 0x4059000000000000 true (step 0x401c000000000000)) ≡ drawn 0x4059000000000000 0xffffffffffffffff)
    × (sample_random_of 0x1b (float 0 0x3fd6666666666666 false (step 0x3f847ae147ae147b)) ≡ drawn 0x3fd6666666666666 0x6cdb566db)
    -- what lies between the ends stays
    × (sample_random_of 0x581299a8616bfcb4 (float 0x3f1a36e2eb1c432d 0x3fb999999999999a true None) ≡ drawn 0x3f91743ae862886a first)
    -- +0 is drawn of -0..1, and of -1..-0 in halves: it equals an end, and stays
    × (sample_random_of first (float 0x8000000000000000 0x3ff0000000000000 false None) ≡ drawn 0 1)
    × (sample_random_of 0x11 (float 0xbff0000000000000 0x8000000000000000 false (step 0x3fe0000000000000)) ≡ drawn 0 0x448a02451)

clamped : Clamped
unfolding sample_random_of random_of float_random unclamped_random log_float_random stepped_float_random linear_float_random float_grid shape_of float_shape float_step bounds_of ends_of exp_of scaled_of reduced_of horner_of whole_power ln_of halved_of series_of series normal field digits mantissa_of exponent_of nearest_of round_of floor_of word_draw_of unit_draw_of unit_of whole_draw_of whole_of range_ok next_of of_bits to_bits of_int to_signed round add sub mul div neg le lt eq is_nan fits
clamped = (refl, refl, refl, refl, refl, refl, refl, refl, refl, refl, refl, refl)
