-- The defaults, the setters, and the settings at the ends of their ranges, computed. Assumes nothing.
use Prim.Native.Nat.{◌^◌, ◌+◌}
use mathlib.Core.Path.{◌≡◌, refl}
use mathlib.Core.Bool.{true, false}
use lib.Ieee.{binary64, of_bits, of_int, round, div, lt, le, eq}
use lib.IntN.{pos}
use Rattle.settings.specs.Settings.{noise₀, new_of, with_startup, with_candidates, with_noise, with_seed, with_slots, settings_ok}

-- document 01's defaults, 1e-6 as the float nearest to it, and each field set in turn
abbrev Fields : Type 0
Fields =
    (new_of 7 ≡ record { n_startup_trials = 10; n_candidates = 1000; noise_variance = div binary64 (of_int binary64 (pos 1)) (of_int binary64 (pos 1000000)); seed = 7; slots = 20 })
    × (with_startup (new_of 7) 1 ≡ record { n_startup_trials = 1; n_candidates = 1000; noise_variance = noise₀; seed = 7; slots = 20 })
    × (with_candidates (new_of 7) 1 ≡ record { n_startup_trials = 10; n_candidates = 1; noise_variance = noise₀; seed = 7; slots = 20 })
    × (with_noise (new_of 7) (of_bits binary64 0) ≡ record { n_startup_trials = 10; n_candidates = 1000; noise_variance = of_bits binary64 0; seed = 7; slots = 20 })
    × (with_seed (new_of 7) 1 ≡ record { n_startup_trials = 10; n_candidates = 1000; noise_variance = noise₀; seed = 1; slots = 20 })
    × (with_slots (new_of 7) 1 ≡ record { n_startup_trials = 10; n_candidates = 1000; noise_variance = noise₀; seed = 7; slots = 1 })

fields : Fields
unfolding of_bits of_int round div
fields = (refl, refl, refl, refl, refl, refl)

abbrev Ranges : Type 0
Ranges =
    (settings_ok (new_of 1) ≡ true)
    × (settings_ok (new_of 0) ≡ false)
    × (settings_ok (with_seed (new_of 0) (2 ^ 63)) ≡ true)
    × (settings_ok (with_startup (new_of 1) (2 ^ 32)) ≡ true)
    × (settings_ok (with_startup (new_of 1) (2 ^ 32 + 1)) ≡ false)
    × (settings_ok (with_candidates (new_of 1) 10000) ≡ true)
    × (settings_ok (with_candidates (new_of 1) 10001) ≡ false)
    × (settings_ok (with_slots (new_of 1) 0) ≡ false)
    × (settings_ok (with_slots (new_of 1) 21) ≡ false)
    -- a noise of 10^6, the next float, -0, the least float below 0, and a NaN
    × (settings_ok (with_noise (new_of 1) (of_bits binary64 0x412e848000000000)) ≡ true)
    × (settings_ok (with_noise (new_of 1) (of_bits binary64 0x412e848000000001)) ≡ false)
    × (settings_ok (with_noise (new_of 1) (of_bits binary64 0x8000000000000000)) ≡ true)
    × (settings_ok (with_noise (new_of 1) (of_bits binary64 0x8000000000000001)) ≡ false)
    × (settings_ok (with_noise (new_of 1) (of_bits binary64 0x7ff8000000000000)) ≡ false)

ranges : Ranges
unfolding settings_ok of_bits lt le eq
ranges = (refl, refl, refl, refl, refl, refl, refl, refl, refl, refl, refl, refl, refl, refl)
