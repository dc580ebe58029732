-- The test of a sampler, clause by clause, computed: one that breaks just that clause is not well-formed, and its neighbour that just keeps it is. Assumes nothing.
use Rattle.std.specs.Prelude.{Option, Some, None}
use Prim.Native.Nat.{ℕ}
use mathlib.Core.Path.{◌≡◌, refl}
use mathlib.Core.Bool.{Bool, true, false}
use mathlib.Core.List.{List, [], ◌∷◌}
use lib.ListN.{replicate, set}
use lib.IntN.{pos, negsuc}
use lib.Ieee.{binary64, of_bits, to_bits, of_int, add, sub, mul, div, le, lt, eq, neg}
use Rattle.arith.specs.Lists.{every, filled}
use Rattle.arith.specs.Rounding.{floor_of}
use Rattle.distribution.specs.Numbers.{FloatDistribution}
use Rattle.distribution.specs.declared.Distribution.{Distribution}
use Rattle.distribution.specs.declared.ParamValue.{ParamValue}
use Rattle.distribution.specs.Shape.{shape_of, float_shape, float_step, int_shape, int_step, categorical_shape}
use Rattle.encoding.specs.Bounds.{bounds_of, ends_of}
use Rattle.dimensions.specs.declared.DimensionInfo.{DimensionInfo}
use Rattle.dimensions.specs.Dimensions.{dimension_ok, dimensions_ok}
use Rattle.dimensions.specs.Empty.{empty_value}
use Rattle.settings.specs.declared.Settings.{Settings}
use Rattle.settings.specs.Settings.{settings_ok}
use Rattle.sampler_state.specs.declared.Place.{Place}
use Rattle.sampler_state.specs.declared.Sampler.{Sampler}
use Rattle.sampler_state.specs.State.{empty_place, place_ok, trials_once, sampler_ok}

-- ---- dimensions: a float from 0 to 1, an int from 2 to 9, a choice among 5, each with two bounds

abbrev float : Bool → Distribution
float log = Distribution.Float (record { low = of_bits binary64 0; high = of_bits binary64 0x3ff0000000000000; log_scale = log; step = None })

abbrev int : Distribution
int = Distribution.Int (record { low = pos 2; high = pos 9; log_scale = false; step = None })

abbrev choice : Distribution
choice = Distribution.Categorical (record { n_choices = 5 })

abbrev bounded : Distribution → ℕ → ℕ → DimensionInfo
bounded d lo hi = record { distribution = d; lo = of_bits binary64 lo; hi = of_bits binary64 hi }

abbrev unit : DimensionInfo
unit = bounded (float false) 0 0x3ff0000000000000

abbrev decade : DimensionInfo
decade =
    let d : FloatDistribution = record { low = of_bits binary64 0x4024000000000000; high = of_bits binary64 0x4059000000000000; log_scale = true; step = None } in
    bounded (Distribution.Float d) 0 0

abbrev hundredths : DimensionInfo
hundredths =
    let d : FloatDistribution = record { low = of_bits binary64 0; high = of_bits binary64 0x3fd6666666666666; log_scale = false; step = Some (of_bits binary64 0x3f847ae147ae147b) } in
    bounded (Distribution.Float d) 0 0x3fd6666666666666

abbrev digit : DimensionInfo
digit = bounded int 0x4000000000000000 0x4022000000000000

abbrev five : DimensionInfo
five = bounded choice 0 0

-- ---- samplers

abbrev settings : ℕ → Settings
settings slots = record { n_startup_trials = 10; n_candidates = 0; noise_variance = of_bits binary64 0; seed = 1; slots = slots }

abbrev sampler : ℕ → ℕ → Bool → List DimensionInfo → ℕ → List (Option Place) → Sampler
sampler slots word active dims k places =
    record { settings = settings slots; word = word; active = active; discovery_trial_id = 0; dimensions = record { list = dims; count = k }; places = places }

-- no place taken
abbrev free : List (Option Place)
free = replicate 32 empty_place

abbrev bounds : DimensionInfo → Bool
bounds d = sampler_ok (sampler 1 5 true (unit ∷ d ∷ []) 2 free)

abbrev many : ℕ → Bool
many k = sampler_ok (sampler 1 5 true (replicate k digit) k free)

-- an active one of three dimensions
abbrev holding : List (Option Place) → Bool
holding places = sampler_ok (sampler 1 5 true (unit ∷ digit ∷ five ∷ []) 3 places)

abbrev held : ℕ → ℕ → List ParamValue → Option Place
held trial next values = Some (record { trial = trial; values = filled empty_value 20 values; next_dim = next })

-- values that may be stored: 1/2, 7 and index 4
abbrev half : ParamValue
half = ParamValue.Float (of_bits binary64 0x3fe0000000000000)

abbrev good : List ParamValue
good = half ∷ ParamValue.Int (pos 7) ∷ ParamValue.Categorical 4 ∷ []

-- one place taken, by trial 7 at a next dimension, or with values
abbrev next : ℕ → Bool
next n = holding (set free 31 (held 7 n good))

abbrev storing : List ParamValue → Bool
storing values = holding (set free 31 (held 7 1 values))

-- by two trials
abbrev trials : ℕ → ℕ → Bool
trials a b = holding (set (set free 30 (held a 1 good)) 31 (held b 1 good))

-- one float, stored for the unit interval, for 10..100 on log scale (where the bounds are not asked), and for 0..0.35 in
-- steps of 0.01
abbrev alone : DimensionInfo → ℕ → Bool
alone d x = sampler_ok (sampler 1 5 true (d ∷ []) 1 (set free 31 (held 7 1 (ParamValue.Float (of_bits binary64 x) ∷ []))))

abbrev in_unit : ℕ → Bool
in_unit = alone unit

abbrev in_decade : ℕ → Bool
in_decade x = place_ok true (decade ∷ []) 1 (held 7 1 (ParamValue.Float (of_bits binary64 x) ∷ []))

abbrev in_hundredths : ℕ → Bool
in_hundredths = alone hundredths

abbrev Clauses : Type 0
Clauses =
    -- a setting out of range; a zero word
    (sampler_ok (sampler 20 5 false [] 0 free) ≡ true)
    × (sampler_ok (sampler 21 5 false [] 0 free) ≡ false)
    × (sampler_ok (sampler 1 1 false [] 0 free) ≡ true)
    × (sampler_ok (sampler 1 0 false [] 0 free) ≡ false)
    -- 20 dimensions, not 21; in discovery none, not when active
    × (many 20 ≡ true)
    × (many 21 ≡ false)
    × (many 1 ≡ true)
    × (many 0 ≡ false)
    -- a dimension's bounds are its distribution's, lower and upper, of each kind; a malformed one has none
    × (bounds unit ≡ true)
    × (bounds (bounded (float false) 0x8000000000000000 0x3ff0000000000000) ≡ false)
    × (bounds (bounded (float false) 0 0x3ff0000000000001) ≡ false)
    × (bounds digit ≡ true)
    × (bounds (bounded int 0x3ff0000000000000 0x4022000000000000) ≡ false)
    × (bounds (bounded int 0x4000000000000000 0x4024000000000000) ≡ false)
    × (bounds five ≡ true)
    × (bounds (bounded choice 0x8000000000000000 0) ≡ false)
    × (bounds (bounded choice 0 0x8000000000000000) ≡ false)
    × (bounds (bounded (Distribution.Categorical (record { n_choices = 0 })) 0 0) ≡ false)
    -- the next dimension of a taken place is from 1 to the count
    × (next 0 ≡ false)
    × (next 1 ≡ true)
    × (next 3 ≡ true)
    × (next 4 ≡ false)
    -- an int from low to high, a choice below the count
    × (storing (half ∷ ParamValue.Int (pos 1) ∷ ParamValue.Categorical 0 ∷ []) ≡ false)
    × (storing (half ∷ ParamValue.Int (pos 2) ∷ ParamValue.Categorical 0 ∷ []) ≡ true)
    × (storing (half ∷ ParamValue.Int (pos 9) ∷ ParamValue.Categorical 0 ∷ []) ≡ true)
    × (storing (half ∷ ParamValue.Int (pos 10) ∷ ParamValue.Categorical 0 ∷ []) ≡ false)
    × (storing (half ∷ ParamValue.Int (pos 2) ∷ ParamValue.Categorical 5 ∷ []) ≡ false)
    -- a float from low to high, both ends with it and -0 at +0; no infinity and no NaN
    × (in_unit 0 ≡ true)
    × (in_unit 0x8000000000000000 ≡ true)
    × (in_unit 0x8000000000000001 ≡ false)
    × (in_unit 0x3ff0000000000000 ≡ true)
    × (in_unit 0x3ff0000000000001 ≡ false)
    × (in_unit 0x7ff0000000000000 ≡ false)
    × (in_unit 0x7ff8000000000000 ≡ false)
    -- and so on log scale, and with a step, where it may lie off the grid
    × (in_decade 0x4024000000000000 ≡ true)
    × (in_decade 0x4023ffffffffffff ≡ false)
    × (in_decade 0x4059000000000001 ≡ false)
    × (in_hundredths 0x3fd6666666666666 ≡ true)
    × (in_hundredths 0x3fd6666666666667 ≡ false)
    × (in_hundredths 0x8000000000000001 ≡ false)
    × (in_hundredths 0x3f747ae147ae147b ≡ true)
    -- a value is of its dimension's kind; past the last dimension it may be any
    × (storing (ParamValue.Int (pos 0) ∷ ParamValue.Int (pos 7) ∷ ParamValue.Categorical 4 ∷ []) ≡ false)
    × (storing (half ∷ half ∷ ParamValue.Categorical 4 ∷ []) ≡ false)
    × (storing (half ∷ ParamValue.Int (pos 7) ∷ ParamValue.Int (pos 4) ∷ []) ≡ false)
    × (storing (half ∷ ParamValue.Int (pos 7) ∷ ParamValue.Categorical 4 ∷ ParamValue.Int (negsuc 4) ∷ []) ≡ true)
    -- a place is taken only when the sampler is active
    × (sampler_ok (sampler 1 5 false (unit ∷ digit ∷ five ∷ []) 3 free) ≡ true)
    × (sampler_ok (sampler 1 5 false (unit ∷ digit ∷ five ∷ []) 3 (set free 31 (held 7 1 good))) ≡ false)
    -- a trial twice
    × (trials 7 8 ≡ true)
    × (trials 7 7 ≡ false)

clauses : Clauses
unfolding sampler_ok settings_ok place_ok trials_once dimension_ok dimensions_ok every bounds_of ends_of shape_of float_shape float_step int_shape int_step categorical_shape of_bits to_bits of_int add sub mul div le lt eq neg floor_of
clauses = (refl, refl, refl, refl, refl, refl, refl, refl, refl, refl, refl, refl, refl, refl, refl, refl, refl, refl, refl, refl, refl, refl, refl, refl, refl, refl, refl, refl, refl, refl, refl, refl, refl, refl, refl, refl, refl, refl, refl, refl, refl, refl, refl, refl, refl, refl, refl, refl, refl)
