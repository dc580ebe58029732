-- "Settings: start-up (0 to 2^32), candidates (0 to 10,000), noise (0 to 10^6), seed (not 0), slots (1 to 20). Defaults belong to the settings themselves: 10, 1,000 and 1e-6, slots 20; seed has none." Definitions only.
use Rattle.std.specs.Prelude.{ℕ, ◌^◌, Bool, not, ◌&&◌, eqb, leb, Float}
use Rattle.std.specs.Float.{binary64}
use Rattle.std.specs.Float.Ieee.{of_bits, le}
use Rattle.settings.specs.declared.Settings.{Settings}

-- 1e-6
abbrev pub noise₀ : Float
noise₀ = of_bits binary64 0x3eb0c6f7a0b5ed8d

abbrev pub new_of : ℕ → Settings
new_of seed = record { n_startup_trials = 10; n_candidates = 1000; noise_variance = noise₀; seed = seed; slots = 20 }

-- "Each setter hands the settings back with one field changed."
abbrev pub with_startup : Settings → ℕ → Settings
with_startup s n = record { n_startup_trials = n; n_candidates = s.n_candidates; noise_variance = s.noise_variance; seed = s.seed; slots = s.slots }

abbrev pub with_candidates : Settings → ℕ → Settings
with_candidates s n = record { n_startup_trials = s.n_startup_trials; n_candidates = n; noise_variance = s.noise_variance; seed = s.seed; slots = s.slots }

abbrev pub with_noise : Settings → Float → Settings
with_noise s v = record { n_startup_trials = s.n_startup_trials; n_candidates = s.n_candidates; noise_variance = v; seed = s.seed; slots = s.slots }

abbrev pub with_seed : Settings → ℕ → Settings
with_seed s w = record { n_startup_trials = s.n_startup_trials; n_candidates = s.n_candidates; noise_variance = s.noise_variance; seed = w; slots = s.slots }

abbrev pub with_slots : Settings → ℕ → Settings
with_slots s n = record { n_startup_trials = s.n_startup_trials; n_candidates = s.n_candidates; noise_variance = s.noise_variance; seed = s.seed; slots = n }

-- a limit on a float is a comparison of floats: -0 is in range, a NaN is not
unfoldable pub settings_ok : Settings → Bool
settings_ok s =
    leb s.n_startup_trials (2 ^ 32) && leb s.n_candidates 10000 && le (of_bits binary64 0) s.noise_variance && le s.noise_variance (of_bits binary64 0x412e848000000000)
    && not (eqb s.seed 0) && leb 1 s.slots && leb s.slots 20
