-- The square root is "correctly rounded, ties to even" (document 01), said with no algorithm. `round` takes a fraction to the nearest value of the format, a tie to the even one, and keeps the order.
-- So what the root rounds to is at least what each fraction up to the root rounds to, and at most what each fraction from the root on does. No other value is both. Definitions only.
use Rattle.std.specs.Prelude.{◌≡◌, ℕ, ◌*◌, ◌≤◌, ◌<◌, Bool, true, false, T, ℤ, Float}
use Rattle.std.specs.Float.{nan, inf, fin, binary64}
use Rattle.std.specs.Float.Ieee.{up, down, round, le, fits}
use Rattle.root.specs.Sqrt.{sqrt_of}

-- r is the root of m * 2 ^ e, rounded: an f64, such that no fraction p / q whose square is at most m * 2 ^ e rounds above r, and none whose square is at least m * 2 ^ e rounds below r
pub record Rooted (m : ℕ) (e : ℤ) (r : Float) : Type 0 where
  pub representable : T (fits binary64 r)
  pub below : (p q : ℕ) → 0 < q → p * p * down e ≤ m * up e * (q * q) → T (le (round binary64 false p q) r)
  pub above : (p q : ℕ) → 0 < q → m * up e * (q * q) ≤ p * p * down e → T (le r (round binary64 false p q))

-- what `sqrt_of` is at every float. By `unique` no other value is the rounded root.
pub record SqrtIsRounded : Type 0 where
  pub positive : (m : ℕ) (e : ℤ) → 0 < m → T (fits binary64 (fin false m e)) → Rooted m e (sqrt_of (fin false m e))
  pub unique : (m : ℕ) (e : ℤ) → 0 < m → T (fits binary64 (fin false m e)) → (r : Float) → Rooted m e r → r ≡ sqrt_of (fin false m e)
  pub zero : (s : Bool) (e : ℤ) → sqrt_of (fin s 0 e) ≡ fin s 0 e
  pub infinity : sqrt_of (inf false) ≡ inf false
  pub negative : (m : ℕ) (e : ℤ) → 0 < m → sqrt_of (fin true m e) ≡ nan
  pub minus-infinity : sqrt_of (inf true) ≡ nan
  pub not-a-number : sqrt_of nan ≡ nan
