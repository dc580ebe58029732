-- "x = m × 2^e, 1 ≤ m < 2": what m and e of ln's definition are, said of their exact values. A statement.
use Rattle.std.specs.Prelude.{◌≡◌, ◌*◌, false, T, ℤ, Float}
use Rattle.std.specs.Float.{fin, binary64}
use Rattle.std.specs.Float.Ieee.{up, down, fits, le, lt}
use Rattle.logarithm.specs.Ln.{whole, normal, mantissa_of, exponent_of}

-- x is m × 2^e, with no rounding; x and m are finite and have no minus sign
abbrev pub IsProduct : Float → Float → ℤ → Type 0
IsProduct (fin false a b) (fin false c d) e = a * up b * down d * down e ≡ c * up d * up e * down b
IsProduct x m e = ⊥

-- of every x that ln accepts
pub record ArgumentIsSplit : Type 0 where
  pub product : (x : Float) → T (fits binary64 x) → T (normal x) → IsProduct x (mantissa_of x) (exponent_of x)
  pub from_one : (x : Float) → T (fits binary64 x) → T (normal x) → T (le (whole 1) (mantissa_of x))
  pub below_two : (x : Float) → T (fits binary64 x) → T (normal x) → T (lt (mantissa_of x) (whole 2))
