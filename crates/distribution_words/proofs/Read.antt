-- The distribution that is mapped from five words is the definition's. Assumes nothing.
use Rattle.std.specs.Prelude.{Option, Some, None, MatchOption, IsSomeAnd}
use mathlib.Core.Path.{◌≡◌, ap, subst}
use Prim.Native.Nat.{ℕ}
use native.Mathlib.Omega.{arith}
use mathlib.Core.Bool.{Bool, true, false, cond}
use lib.Dec.{T, eqb}
use lib.Ieee.Bits.{is_true}
use Rattle.distribution.specs.declared.NumberDistribution.{NumberDistribution}
use Rattle.distribution_words.specs.Words.{only, flags_ok, number_of}

never : ◌≡◌ {A = ℕ} 0 1 → ⊥
never z = omega arith

pub malformed : {A : Type 0} (x : A) → None ≡ Some x → ⊥
malformed x e = let z : ◌≡◌ {A = ℕ} 0 1 = cc in never z

-- what is well-formed passed the test
pub only-is : {A : Type 0} (b : Bool) (r : Option A) (x : A) → only b r ≡ Some x → T b × (r ≡ Some x)
only-is true r x e = (tt, e)
only-is false r x e = absurd (malformed x e)

-- r is what f makes of each number of d
pub record Mapped {A B : Type 0} (f : A → B) (d : NumberDistribution A) (r : NumberDistribution B) : Type 0 where
  pub low : r.low ≡ f d.low
  pub high : r.high ≡ f d.high
  pub log_scale : r.log_scale ≡ d.log_scale
  pub step : MatchOption d.step (r.step ≡ None) (λ x. IsSomeAnd r.step (λ y. y ≡ f x))

module _ {B : Type 0} (f : ℕ → B) where
  step-is : (b : Bool) (x : ℕ) (s : Option B) → MatchOption (cond b (Some x) None) (s ≡ None) (λ x. IsSomeAnd s (λ y. y ≡ f x)) → s ≡ cond b (Some (f x)) None
  step-is true x None h = absurd h
  step-is true x (Some y) h = ap Some h
  step-is false x s h = h

  module _ (low high log stepped step : ℕ) (d : NumberDistribution ℕ) (r : NumberDistribution B) where
    pub read : only (flags_ok log stepped step) (Some (number_of (λ w. w) low high log stepped step)) ≡ Some d → Mapped f d r
        → (flags_ok log stepped step ≡ true) × (r ≡ number_of f low high log stepped step)
    read e m =
        let p = only-is (flags_ok log stepped step) (Some (number_of (λ w. w) low high log stepped step)) d e in
        let same : d ≡ number_of (λ w. w) low high log stepped step = cc p.1 in
        let g = subst (λ (x : NumberDistribution ℕ). Mapped f x r) same m in
        let s = step-is (eqb stepped 1) step r.step g.step in
        (is_true (flags_ok log stepped step) p.0, λ i. record { low = g.low i; high = g.high i; log_scale = g.log_scale i; step = s i })
