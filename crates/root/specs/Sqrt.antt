-- The square root of an f64, correctly rounded. Definitions only.
use Rattle.std.specs.Prelude.{ℕ, zero, suc, ◌+◌, ◌*◌, ◌/◌, ◌^◌, true, false, cond, leb, ltb, Float}
use Rattle.std.specs.Float.{nan, inf, fin, binary64}
use Rattle.std.specs.Float.Ieee.{up, down, round}

-- r or r + 1: the larger whose square is at most n
abbrev pub better : ℕ → ℕ → ℕ
better n r = cond (leb ((r + 1) * (r + 1)) n) (r + 1) r

-- the largest r with r * r ≤ n, for an n below 4 ^ k: binary digit by digit
unfoldable pub isqrt : ℕ → ℕ → ℕ
isqrt zero n = 0
isqrt (suc k) n = better n (2 * isqrt k (n / 4))

-- √(n / 4 ^ 600), rounded to an f64. The root of n is s or strictly between s and s + 1. There is no value of the format, nor a middle of two, strictly between
-- s / 2 ^ 600 and (s + 1) / 2 ^ 600, since s has 60 digits or more. So s + 1/2, in place of the root, rounds to the same value.
abbrev pub halves : ℕ → ℕ → ℕ
halves n s = 2 * s + cond (ltb (s * s) n) 1 0

unfoldable pub root_of : ℕ → Float
unfolding isqrt
root_of n = round binary64 false (halves n (isqrt 1112 n)) (2 ^ 601)

-- ±0 and +infinity are their own roots, and a negative number and a NaN have none
unfoldable pub sqrt_of : Float → Float
unfolding root_of
sqrt_of nan = nan
sqrt_of (inf true) = nan
sqrt_of (inf false) = inf false
sqrt_of (fin s zero e) = fin s zero e
sqrt_of (fin true (suc m) e) = nan
sqrt_of (fin false (suc m) e) = root_of (suc m * up e * 4 ^ 600 / down e)
