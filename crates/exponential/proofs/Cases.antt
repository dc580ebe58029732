-- The definitions at single points, computed; the words of exp are what the Rust answers with document 01's recipe. Assumes nothing.
use Rattle.std.proofs.Common.{◌≡◌, ℕ, true, false, [], ◌∷◌, pos, negsuc, refl}
use lib.Ieee.{Float, nan, binary64, of_bits, of_int, to_bits, round, add, sub, mul, div, neg, lt, is_nan}
use Rattle.refusal.specs.declared.Refusal.TheVariants.{OutOfDomain}
use Rattle.std.specs.Prelude.{Ok, Err}
use Rattle.arith.specs.Lists.{every, grown}
use Rattle.arith.specs.Rounding.{nearest_of, round_of}
use Rattle.exponential.specs.Exp.{log2e, one, whole_of, reduced_of, horner_of, scaled_of, exp_of, none_above, exp_eight_of}
use Rattle.exponential.specs.ExpParts.{Falling, size_of, falling_of}

abbrev float : ℕ → Float
float n = of_int binary64 (pos n)

-- a half away from 0; 1 less ln 2; 1 + 2 + 4/2; and the constants by their decimals
abbrev Parts : Type 0
Parts =
    (whole_of (of_bits binary64 0xc004000000000000) ≡ negsuc 2)
    × (reduced_of one one ≡ of_bits binary64 0x3fd3a37a020b8c22)
    × (horner_of 2 (float 2) one ≡ float 5)
    × (log2e ≡ round binary64 false 14426950408889634 10000000000000000)
    × (one ≡ float 1)

parts : Parts
unfolding whole_of reduced_of horner_of nearest_of of_bits of_int round add sub mul div
parts = (refl, refl, refl, refl, refl)

-- exp at 1, -1.5, 709 and -708, and at the next floats outside
abbrev Points : Type 0
Points =
    (exp_of one ≡ Ok (of_bits binary64 0x4005bf0a8b14576a))
    × (exp_of (of_bits binary64 0xbff8000000000000) ≡ Ok (of_bits binary64 0x3fcc8f87724b5c1d))
    × (exp_of (of_bits binary64 0x4086280000000000) ≡ Ok (of_bits binary64 0x7fdd422d2be5dc9b))
    × (exp_of (of_bits binary64 0x4086280000000001) ≡ Err OutOfDomain)
    × (exp_of (of_bits binary64 0xc086200000000000) ≡ Ok (of_bits binary64 0x0017c8ab2288c9ac))
    × (exp_of (of_bits binary64 0xc086200000000001) ≡ Ok (float 0))
    × (exp_of nan ≡ Ok nan)

points : Points
unfolding exp_of scaled_of whole_of reduced_of horner_of nearest_of round_of of_bits of_int to_bits round add sub mul div neg lt is_nan
points = (refl, refl, refl, refl, refl, refl, refl)

-- below 0: k = -1 at -1; nothing to reduce from 0 on and below -708
abbrev Fallen : Type 0
Fallen =
    (Falling (of_bits binary64 0xc086200000000000) × (Falling (of_bits binary64 0xc086200000000001) → ⊥) × (Falling (float 0) → ⊥))
    × (size_of (of_int binary64 (negsuc 0)) ≡ 1)
    × (size_of one ≡ 0)
    × (size_of (of_int binary64 (negsuc 708)) ≡ 0)
    × (falling_of (of_int binary64 (negsuc 0)) 1 ≡ of_bits binary64 0x3fd78b56362cef38)

fallen : Fallen
unfolding size_of falling_of reduced_of horner_of nearest_of of_bits of_int to_bits round add sub mul div neg lt
fallen = (((tt, tt), λ h. h.1, λ h. h.0), refl, refl, refl, refl)

-- eight at once: 0 and 1 in turn, and 709 with the next float
abbrev Eights : Type 0
Eights =
    (exp_eight_of (float 0 ∷ one ∷ float 0 ∷ one ∷ float 0 ∷ one ∷ float 0 ∷ nan ∷ []) ≡ Ok (one ∷ e ∷ one ∷ e ∷ one ∷ e ∷ one ∷ nan ∷ []))
    × (none_above (top ∷ nan ∷ top ∷ top ∷ top ∷ top ∷ top ∷ top ∷ []) ≡ true)
    × (exp_eight_of (top ∷ top ∷ top ∷ top ∷ top ∷ top ∷ top ∷ of_bits binary64 0x4086280000000001 ∷ []) ≡ Err OutOfDomain)
  where
    e : Float
    e = of_bits binary64 0x4005bf0a8b14576a

    top : Float
    top = float 709

eights : Eights
unfolding exp_eight_of none_above every grown exp_of scaled_of whole_of reduced_of horner_of nearest_of round_of of_bits of_int round add sub mul div neg lt is_nan
eights = (refl, refl, refl)
