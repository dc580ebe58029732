-- The kernel's exp is accepted: a root is a NaN or not below 0, so the argument is a NaN or not above 0. Assumes nothing.
use mathlib.Core.Path.{◌≡◌, refl, ap, ◌∙◌}
use mathlib.Core.Logic.{◌⊎◌, inl, inr}
use mathlib.Core.Bool.{true, false}
use Prim.Native.Nat.{zero, suc}
use lib.Ieee.{Float, nan, inf, fin, binary64, mul, neg, le, of_bits}
use borrow.Author.Tests.{eq-eqb}
use Rattle.arith.specs.Bounds.{Sign}
use Rattle.root.specs.Sqrt.{sqrt_of}
use Rattle.arith.proofs.Accepted.{Accepted, accepted-value, made-accepted}
use Rattle.exponential.proofs.ExpLaws.{exp-accepted}
use Rattle.arith.proofs.Order as order
use Rattle.arith.proofs.Sign.{mul-sign, plus-sign, zero-sign}
use Rattle.root.proofs.RootSign.{sqrt-sign}
use Rattle.kernel.specs.Accepts.{KernelAccepts}
use Rattle.kernel.specs.Matern.{sqrt5, squared_distance_of, scaled_root_of, decay_of, at_of, matern52_of}

root : (x : Float) → (sqrt_of x ≡ nan) ⊎ Sign false (sqrt_of x)
root nan = inl (unfold sqrt_of in refl)
root (inf true) = inl (unfold sqrt_of in refl)
root (inf false) = inr (sqrt-sign (inf false) (unfold le of_bits in tt))
root (fin s zero e) = inr (sqrt-sign (fin s zero e) (zero-sign false s e))
root (fin true (suc m) e) = inl (unfold sqrt_of in refl)
root (fin false (suc m) e) = inr (sqrt-sign (fin false (suc m) e) (plus-sign (suc m) e))

-- minus a value that is not below 0
negated : (y : Float) → Sign false y → Sign true (neg y)
negated y h = order.le_trans (neg y) (neg (of_bits binary64 0)) (of_bits binary64 0) (order.neg-anti (of_bits binary64 0) y h) (unfold le neg of_bits in tt)

-- times the constant
scaled : (y : Float) → Sign false y → Sign false (mul binary64 sqrt5 y)
scaled nan h = absurd (unfold le of_bits in h)
scaled (inf true) h = absurd (unfold le of_bits in h)
scaled (inf false) h = unfold mul le of_bits in tt
scaled (fin s m e) h = mul-sign false false sqrt5 (fin s m e) (unfold of_bits in tt) tt (unfold le of_bits in tt) h

decay : (y : Float) → (y ≡ nan) ⊎ Sign false y → (neg (mul binary64 sqrt5 y) ≡ nan) ⊎ Sign true (neg (mul binary64 sqrt5 y))
decay y (inl e) = inl (ap (λ (v : Float). neg (mul binary64 sqrt5 v)) e ∙ unfold mul neg of_bits in refl)
decay y (inr h) = inr (negated _ (scaled y h))

-- the argument of exp
pub not_above : (r2 : Float) → (neg (scaled_root_of r2) ≡ nan) ⊎ Sign true (neg (scaled_root_of r2))
unfolding scaled_root_of
not_above r2 = decay (sqrt_of r2) (root r2)

pub at-accepted : (r2 s : Float) → Accepted (at_of r2 s)
unfolding decay_of
at-accepted r2 s = made-accepted _ _ (exp-accepted _ (not_above r2))

pub kernel-accepts : KernelAccepts
unfolding matern52_of
kernel-accepts x1 x2 l s p q = accepted-value _ (rw (eq-eqb _ _ p, eq-eqb _ _ q) (at-accepted (squared_distance_of x1 x2 l) s))
