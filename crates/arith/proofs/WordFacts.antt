-- Facts on patterns of floats. Assumes nothing.
use Rattle.std.proofs.Common.{◌≡◌, ℕ, ◌%◌, ◌<◌, ◌≤◌, Bool, true, not, T, sym, refl, ◌∙◌, subst, le-ltb, lt-ltb}
use lib.Ieee.{Float, nan, inf, fin, binary64, is_nan, nan_bits, of_bits, to_bits}
use lib.Ieee.Bits.{nan_bits_is, nan_bits_above}

pub is-nan : (x : Float) → is_nan x ≡ true → x ≡ nan
unfolding is_nan
is-nan nan e = refl
is-nan (inf s) e = cc
is-nan (fin s m x) e = cc

-- a word above the infinity's, its sign taken off, is a NaN's
pub above_nan : (w : ℕ) → 0x7ff0_0000_0000_0000 < w % 0x8000_0000_0000_0000 → nan ≡ of_bits binary64 w
above_nan w h = sym (is-nan (of_bits binary64 w) (sym (nan_bits_is binary64 w) ∙ nan_bits_above binary64 w ∙ lt-ltb _ _ h))

pub within : (w : ℕ) → w % 0x8000_0000_0000_0000 ≤ 0x7ff0_0000_0000_0000 → T (not (nan_bits binary64 w))
within w h = subst (λ (b : Bool). T (not b)) (sym (nan_bits_above binary64 w ∙ le-ltb _ _ h)) tt

-- the pattern that is written for a NaN
pub nan_word : (x : Float) → is_nan x ≡ true → 0x7ff8_0000_0000_0000 ≡ to_bits binary64 x
unfolding to_bits is_nan
nan_word nan e = refl
nan_word (inf s) e = cc
nan_word (fin s m x) e = cc
