-- Document 01's sample book, as facts of the definitions. Definitions and statements only.
use Rattle.std.specs.Prelude.{◌≡◌, ℕ, false, ℤ, pos, negsuc, [], ◌∷◌, Some, None, Result, Ok, cond}
use Rattle.refusal.specs.declared.Refusal.{Refusal}
use Rattle.std.specs.Int.Signed.{lt_z}
use Rattle.std.specs.Float.{binary64}
use Rattle.std.specs.Float.Ieee.{of_bits, of_int}
use Rattle.exponential.specs.Exp.{exp_of}
use Rattle.logarithm.specs.Ln.{ln_of}
use Rattle.arith.specs.Lists.{filled}
use Rattle.root.specs.Sqrt.{sqrt_of}
use Rattle.distribution.specs.declared.Distribution.{Distribution}
use Rattle.distribution.specs.declared.ParamValue.{ParamValue}
use Rattle.common.specs.Decode.{from_internal_of}
use Rattle.common.specs.Random.{sample_random_of}
use Rattle.dimensions.specs.Dimensions.{dimension_of}
use Rattle.param_mapping.specs.Mapping.{mapping_of}
use Rattle.acquisition.specs.Improvement.{expected_improvement_of}
use Rattle.acquisition.specs.Normal.{norm_cdf_of}
use Rattle.rng_util.specs.declared.Draw.{Draw}
use Rattle.rng_util.specs.Draws.{whole_draw_of}
use Rattle.rng_util.specs.Generator.{stream_of}

-- the ints from low to high, with a step unless it is 0, on linear scale
abbrev pub ints : ℤ → ℤ → ℤ → Distribution
ints low high step = Distribution.Int (record { low = low; high = high; log_scale = false; step = cond (lt_z (pos 0) step) (Some step) None })

-- a value by one word, and the generator's word after it
abbrev drawn : {A : Type 0} → A → ℕ → Result (Draw A) Refusal
drawn v next = Ok (record { value = v; drawn = 1; next = next })

pub record SampleBook : Type 0 where
  -- (a) words from 1: 40822041, 100041060c011441 hexadecimal
  pub a : stream_of 2 1 ≡ 0x40822041 ∷ 0x100041060c011441 ∷ []
  -- (b) first word among 5 choices gives 1
  pub b : whole_draw_of 1 (pos 0) (pos 4) ≡ drawn (pos 1) 0x40822041
  -- (c) the second in 0..=9 gives 5
  pub c : whole_draw_of 0x40822041 (pos 0) (pos 9) ≡ drawn (pos 5) 0x100041060c011441
  -- (b) and (c) again, as values of a choice and of an int
  pub b-choice : sample_random_of 1 (Distribution.Categorical (record { n_choices = 5 })) ≡ drawn (ParamValue.Categorical 1) 0x40822041
  pub c-int : sample_random_of 0x40822041 (ints (pos 0) (pos 9) (pos 0)) ≡ drawn (ParamValue.Int (pos 5)) 0x100041060c011441
  -- (d) int 10..20 step 4 decodes 16 to 18
  pub d : from_internal_of (of_int binary64 (pos 16)) (ints (pos 10) (pos 20) (pos 4)) ≡ Ok (ParamValue.Int (pos 18))
  -- (e) 21 to 20, off the grid
  pub e : from_internal_of (of_int binary64 (pos 21)) (ints (pos 10) (pos 20) (pos 4)) ≡ Ok (ParamValue.Int (pos 20))
  -- (f) int −5..5 decodes −2.5 to −3
  pub f : from_internal_of (of_bits binary64 0xc004000000000000) (ints (negsuc 4) (pos 5) (pos 0)) ≡ Ok (ParamValue.Int (negsuc 2))
  -- (g) sqrt(2) = 3ff6a09e667f3bcd
  pub g : sqrt_of (of_bits binary64 0x4000000000000000) ≡ of_bits binary64 0x3ff6a09e667f3bcd
  -- (h) exp(0) = 1
  pub h : exp_of (of_bits binary64 0) ≡ Ok (of_int binary64 (pos 1))
  -- (i) ln(1) = 0
  pub i : ln_of (of_int binary64 (pos 1)) ≡ Ok (of_bits binary64 0)
  -- (j) Φ(8.5) = 1
  pub j : norm_cdf_of (of_bits binary64 0x4021000000000000) ≡ Ok (of_int binary64 (pos 1))
  -- (k) mean 2, std 0: best 3 gives 1
  pub k-above : expected_improvement_of (of_int binary64 (pos 2)) (of_bits binary64 0) (of_int binary64 (pos 3)) ≡ Ok (of_int binary64 (pos 1))
  -- best 1 gives 0
  pub k-below : expected_improvement_of (of_int binary64 (pos 2)) (of_bits binary64 0) (of_int binary64 (pos 1)) ≡ Ok (of_bits binary64 0)
  -- (l) equal distributions under ids 9, 4 map to 4, then 9
  pub l : mapping_of 2 (dimension_of (ints (pos 0) (pos 9) (pos 0)) ∷ dimension_of (ints (pos 0) (pos 9) (pos 0)) ∷ []) 2 (7 ∷ 1 ∷ 0 ∷ 9 ∷ 2 ∷ 0 ∷ 9 ∷ 0 ∷ 0 ∷ 0 ∷ 5 ∷ 4 ∷ 2 ∷ 0 ∷ 9 ∷ 0 ∷ 0 ∷ 0 ∷ 5 ∷ [])
      ≡ Ok (filled None 20 (Some 4 ∷ Some 9 ∷ []))
