-- The definitions at single points, computed; the words are what Rust prints for the same formulas with its own exp. Assumes nothing.
use Rattle.std.specs.Prelude.{Ok, Err}
use mathlib.Core.Path.{◌≡◌, refl}
use Rattle.refusal.specs.declared.Refusal.TheVariants.{Settings, Malformed}
use lib.IntN.{pos, negsuc}
use lib.Ieee.{binary64, of_bits, to_bits, round, add, sub, mul, div, neg, lt, le, is_nan, of_int, to_signed}
use Rattle.exponential.specs.Exp.{exp_of, horner_of, reduced_of, scaled_of, whole_of}
use Rattle.arith.specs.Rounding.{nearest_of, round_of}
use Rattle.acquisition.specs.Normal.{one, norm_pdf_of, polynomial_of, upper_of, norm_cdf_of}
use Rattle.acquisition.specs.Improvement.{both, expected_improvement_of}

abbrev Points : Type 0
Points =
    (norm_pdf_of (of_bits binary64 0) ≡ Ok (of_bits binary64 0x3fd9884533d43651))
    × (norm_pdf_of (of_int binary64 (pos 1)) ≡ Ok (of_bits binary64 0x3fcef8e58e331738))
    -- 26.2.17 is not exactly a half at 0
    × (norm_cdf_of (of_bits binary64 0) ≡ Ok (of_bits binary64 0x3fe0000000482110))
    × (norm_cdf_of (of_int binary64 (pos 1)) ≡ Ok (of_bits binary64 0x3feaec4bce1ad08e))
    × (norm_cdf_of (of_int binary64 (negsuc 0)) ≡ Ok (of_bits binary64 0x3fc44ed0c794bdc8))
    × (expected_improvement_of (of_bits binary64 0) (of_int binary64 (pos 1)) (of_int binary64 (pos 1)) ≡ Ok (of_bits binary64 0x3ff1554298d3cb2e))
    -- a deviation of 2: the distribution and the density are taken at a half
    × (expected_improvement_of (of_bits binary64 0) (of_int binary64 (pos 2)) (of_int binary64 (pos 1)) ≡ Ok (of_bits binary64 0x3ff6545973e930f6))

points : Points
unfolding norm_pdf_of polynomial_of upper_of norm_cdf_of expected_improvement_of exp_of horner_of reduced_of scaled_of whole_of nearest_of round_of of_bits to_bits round add sub mul div neg lt le is_nan of_int to_signed
points = (refl, refl, refl, refl, refl, refl, refl)

-- at -8 and 8 by the formula, and at the next floats outside 0 and 1, as the Rust answers
abbrev Ends : Type 0
Ends =
    (norm_cdf_of (of_int binary64 (negsuc 7)) ≡ Ok (of_bits binary64 0x3cc8000000000000))
    × (norm_cdf_of (of_bits binary64 0xc020000000000001) ≡ Ok (of_bits binary64 0))
    × (norm_cdf_of (of_int binary64 (pos 8)) ≡ Ok (of_bits binary64 0x3feffffffffffffa))
    × (norm_cdf_of (of_bits binary64 0x4020000000000001) ≡ Ok (of_bits binary64 0x3ff0000000000000))

ends : Ends
unfolding norm_pdf_of polynomial_of upper_of norm_cdf_of exp_of horner_of reduced_of scaled_of whole_of nearest_of round_of of_bits to_bits round add sub mul div neg lt le is_nan of_int to_signed
ends = (refl, refl, refl, refl)

-- a deviation of 1e-12 is not below it: 0 improvement by the formula at 0 and 0, whose density is 0.3989.. × 1e-12; the first of two refusals
abbrev Small : Type 0
Small =
    (expected_improvement_of (of_bits binary64 0) (of_bits binary64 0x3d719799812dea11) (of_bits binary64 0) ≡ Ok (of_bits binary64 0x3d5c12b489644ecd))
    × (expected_improvement_of (of_bits binary64 0) (of_bits binary64 0x3d719799812dea10) (of_bits binary64 0) ≡ Ok (of_bits binary64 0))
    × (both (add binary64) (Ok one) (Ok one) ≡ Ok (of_int binary64 (pos 2)))
    × (both (add binary64) (Err Settings) (Err Malformed) ≡ Err Settings)
    × (both (add binary64) (Ok one) (Err Malformed) ≡ Err Malformed)

small : Small
unfolding norm_pdf_of polynomial_of upper_of norm_cdf_of expected_improvement_of exp_of horner_of reduced_of scaled_of whole_of nearest_of round_of of_bits to_bits round add sub mul div neg lt le is_nan of_int to_signed
small = (refl, refl, refl, refl, refl)
