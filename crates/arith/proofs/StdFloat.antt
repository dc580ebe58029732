-- std's methods of floats are the definitions. Assumes nothing.
use mathlib.Core.Path.{◌≡◌, refl, ap}
use Prim.Native.Nat.{ℕ, ◌+◌, ◌-◌, ◌/◌, ◌<◌}
use native.Mathlib.Omega.{arith}
use mathlib.Core.Bool.{true, false}
use lib.Ieee.{Float, nan, inf, fin, binary64, down, round}
use lib.Ieee.Fits.{down_pos}
use Rattle.std.specs.Float as std
use Rattle.std.specs.Float.{float_with_sign, round_with}
use Rattle.arith.specs.Bounds.{abs}
use Rattle.arith.specs.Rounding.{nearest_of, round_of, floor_of}

pub size_is : (x : Float) → float_with_sign false x ≡ abs x
unfolding float_with_sign
size_is nan = refl
size_is (inf s) = refl
size_is (fin s m e) = refl

pub round_is : (x : Float) → std.float_round binary64 x ≡ round_of x
unfolding round_with round_of nearest_of
round_is nan = refl
round_is (inf s) = refl
round_is (fin false m e) = refl
round_is (fin true m e) = refl

-- a fraction rounded up, written in two ways
ceiling : (n d : ℕ) → 0 < d → (n + d - 1) / d ≡ (n + (d - 1)) / d
ceiling n d D = ap (λ (x : ℕ). x / d) (omega arith)

pub floor_is : (x : Float) → std.floor binary64 x ≡ floor_of x
unfolding round_with floor_of
floor_is nan = refl
floor_is (inf s) = refl
floor_is (fin false m e) = refl
floor_is (fin true m e) = ap (λ (n : ℕ). round binary64 true n 1) (ceiling _ (down e) (down_pos e))
