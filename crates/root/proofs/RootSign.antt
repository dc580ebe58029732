-- The square root of a value that is not below 0 is not below 0. Assumes nothing.
use mathlib.Core.Logic.{inl, inr}
use Prim.Native.Nat.{zero, suc, ◌^◌}
use native.Mathlib.Omega.{arith}
use mathlib.Core.Bool.{true, false, true≢false}
use lib.Pow.{pow_pos}
use lib.Ieee.{Float, nan, inf, fin, le, of_bits}
use Rattle.arith.specs.Bounds.{Sign}
use Rattle.arith.proofs.Sign.{bit-of, sign-round}
use Rattle.root.specs.Sqrt.{sqrt_of, root_of}

pub sqrt-sign : (x : Float) → Sign false x → Sign false (sqrt_of x)
unfolding sqrt_of root_of le of_bits
sqrt-sign nan h = absurd h
sqrt-sign (inf true) h = absurd h
sqrt-sign (inf false) h = h
sqrt-sign (fin s zero e) h = h
sqrt-sign (fin true (suc m) e) h = absurd (elim (bit-of false true (suc m) e (unfold le of_bits in h)) [ inl i ↦ true≢false i | inr z ↦ omega arith ])
sqrt-sign (fin false (suc m) e) h = sign-round false _ (2 ^ 601) (pow_pos 601)
