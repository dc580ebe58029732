-- A sampler made, and places looked up and counted, computed: a trial's place, the empty one where it has none, and where a place is written. Assumes nothing.
use Prim.Native.Nat.{ℕ}
use mathlib.Core.Path.{◌≡◌, refl}
use mathlib.Core.Bool.{true, false}
use mathlib.Core.List.{List, [], ◌∷◌}
use lib.ListN.{replicate, set}
use lib.IntN.{pos}
use lib.Ieee.{binary64, of_bits}
use Rattle.arith.specs.Lists.{every, filled, place_of, places_of}
use Rattle.distribution.specs.declared.ParamValue.{ParamValue}
use Rattle.dimensions.specs.Empty.{empty_value}
use Rattle.settings.specs.declared.Settings.{Settings}
use Rattle.std.specs.Prelude.{Option, Some}
use Rattle.sampler_state.specs.declared.Place.{Place}
use Rattle.sampler_state.specs.State.{empty_place, fresh_of, trial_place, free_place, held_by, spot_for, taken_count, trials_once}

-- no two of the numbers alike, and a noise of 1
abbrev settings : Settings
settings = record { n_startup_trials = 3; n_candidates = 5; noise_variance = of_bits binary64 0x3ff0000000000000; seed = 7; slots = 2 }

abbrev Fresh : Type 0
Fresh =
    ((fresh_of settings).settings ≡ settings)
    × ((fresh_of settings).word ≡ 7)
    × ((fresh_of settings).active ≡ false)
    × ((fresh_of settings).dimensions.count ≡ 0)

fresh : Fresh
fresh = (refl, refl, refl, refl)

-- a place of a trial with the values 2 and 7 and a next dimension
abbrev place : ℕ → ℕ → Option Place
place trial next = Some (record { trial = trial; values = filled empty_value 20 (ParamValue.Categorical 2 ∷ ParamValue.Int (pos 7) ∷ []); next_dim = next })

-- trial 7 in place 1 and trial 8 in place 2; place 0 is free
abbrev some : List (Option Place)
some = set (set (replicate 32 empty_place) 1 (place 7 2)) 2 (place 8 1)

-- every place is trial 7's
abbrev full : List (Option Place)
full = replicate 32 (place 7 1)

-- places 0 and 2 are taken
abbrev gap : List (Option Place)
gap = set (set (replicate 32 empty_place) 0 (place 7 2)) 2 (place 8 1)

abbrev Places : Type 0
Places =
    -- a trial's own place, not the first one that is taken; none is found for a trial without one
    (held_by some 8 ≡ place 8 1)
    × (held_by some 9 ≡ empty_place)
    × (trial_place some 9 ≡ 32)
    -- the first free one, not the last
    × (free_place some ≡ 0)
    × (free_place gap ≡ 1)
    × (free_place full ≡ 32)
    -- it is written where it is, though an earlier one is free; a new trial's in the first free one; there may be none
    × (spot_for some 8 ≡ 2)
    × (spot_for some 9 ≡ 0)
    × (spot_for gap 9 ≡ 1)
    × (spot_for full 8 ≡ 32)
    × (spot_for full 7 ≡ 0)
    × (taken_count some ≡ 2)
    × (taken_count full ≡ 32)
    -- one trial twice
    × (trials_once some ≡ true)
    × (trials_once (set some 5 (place 8 1)) ≡ false)
    × (trials_once (set some 5 empty_place) ≡ true)

places : Places
unfolding trial_place free_place spot_for taken_count trials_once every place_of places_of
places = (refl, refl, refl, refl, refl, refl, refl, refl, refl, refl, refl, refl, refl, refl, refl, refl)
