-- The steps of an int drawn stay between its ends. Assumes nothing.
use mathlib.Core.Path.{◌≡◌, refl, ap, ◌∙◌, subst}
use Prim.Native.Nat.{ℕ, ◌+◌, ◌*◌, ◌/◌, ◌^◌, ◌≤◌, ◌<◌}
use native.Mathlib.Nat.{le_trans, mul-le-mul_right, mod-eq_of_lt, div-mul-le_self, div-le_self}
use native.Mathlib.Omega.{arith}
use mathlib.Core.Bool.{◌&&◌}
use lib.Dec.{T, leb, leb→le, le→leb}
use lib.IntN.{ℤ, pos, negsuc, nat_abs, ◌+ℤ◌, ◌-ℤ◌, ◌*ℤ◌, pos-*ℤ-pos}
use lib.Signed.{le_z, quot_z}
use lib.Ieee.Fits.{and_i}
use mir.Syntax.{w64}
use mir.Val.{SFits}
use Rattle.std.specs.Prelude.{Ok}
use Rattle.rng_util.specs.declared.Draw.{Draw}
use Rattle.rng_util.specs.Draws.{whole_draw_of, range_ok}
use Rattle.rng_util.proofs.Whole.{difference, difference-small, whole-fits, whole_is, whole-draw-between, Between}
use mir.ValLaws.{to_z-of_z}
use Rattle.distribution.proofs.Whole.{ReadBack}
use Rattle.common.specs.RandomParts.{Stepped}

pub in-range : (a b : ℤ) → nat_abs a ≤ 2 ^ 53 → nat_abs b ≤ 2 ^ 53 → T (le_z a b) → T (range_ok a b)
unfolding range_ok
in-range a b p q h = and_i (le_z a b && leb (nat_abs a) (2 ^ 53)) (leb (nat_abs b) (2 ^ 53)) (and_i (le_z a b) (leb (nat_abs a) (2 ^ 53)) h (le→leb (nat_abs a) (2 ^ 53) p)) (le→leb (nat_abs b) (2 ^ 53) q)

-- a number from 0 to q
pub record UpTo (q : ℕ) (v : ℤ) : Type 0 where
  pub number : ℕ
  pub is : v ≡ pos number
  pub most : number ≤ q

pub up_to : (q : ℕ) (v : ℤ) → Between (pos 0) (pos q) v → UpTo q v
up_to q (pos n) b = record { number = n; is = refl; most = leb→le n q b.1 }
up_to q (negsuc n) b = absurd b.0

-- so is one that is drawn there
pub drawn-up-to : (w q : ℕ) (d : Draw ℤ) → whole_draw_of w (pos 0) (pos q) ≡ Ok d → UpTo q d.value
drawn-up-to w q d e = up_to q d.value (whole-draw-between w (pos 0) (pos q) d e)

-- and it is read as it was stored
pub read-back : (q : ℕ) (v : ℤ) → UpTo q v → q < 2 ^ 63 → ReadBack v
read-back q v u l = to_z-of_z w64 v (rw u.is (record { sfits = omega (arith, u.most) }))

module _ (low high step : ℤ) (s : Stepped low high step) where
  ok : T (range_ok low high)
  ok = in-range low high (let l = s.low_small in omega arith) (let h = s.high_small in omega arith) s.ordered

  pub span : ℕ
  span = (difference low high ok).size

  pub span-is : high -ℤ low ≡ pos span
  unfolding span
  span-is = (difference low high ok).is

  pub span_small : span ≤ 2 ^ 54
  unfolding span
  span_small = difference-small low high ok

  pub step_is : (n : ℕ) × (step ≡ pos n) × (0 < n)
  step_is = go step s.step_from
    where
      go : (z : ℤ) → T (le_z (pos 1) z) → (n : ℕ) × (z ≡ pos n) × (0 < n)
      go (pos n) h = (n, refl, leb→le 1 n h)
      go (negsuc n) h = absurd h

  -- low and up to the span
  pub sum_fits : (t : ℕ) → t ≤ span → SFits w64 (low +ℤ pos t)
  unfolding span
  sum_fits t h = subst (SFits w64) (whole_is low high ok t ∙ ap (λ (n : ℕ). low +ℤ pos n) (mod-eq_of_lt (let g : t < (difference low high ok).size + 1 = omega arith in g))) (whole-fits low high ok t)

  pub steps : ℕ
  steps = span / step_is.0

  pub steps-is : quot_z (high -ℤ low) step ≡ pos steps
  unfolding steps
  steps-is = λ i. quot_z (span-is i) (step_is.1 i)

  pub steps-fit : SFits w64 (pos steps)
  unfolding steps
  steps-fit = record { sfits = omega (arith, div-le_self span step_is.0, span_small) }

  pub steps-small : steps < 2 ^ 63
  unfolding steps
  steps-small = omega (arith, div-le_self span step_is.0, span_small)

  pub span_fits : SFits w64 (pos span)
  span_fits = record { sfits = omega (arith, span_small) }

  -- a number of steps is a way from 0 to the span
  pub way : (v : ℤ) → UpTo steps v → UpTo span (v *ℤ step)
  unfolding steps
  way v u = record {
    number = u.number * step_is.0;
    is = (λ i. u.is i *ℤ step_is.1 i) ∙ pos-*ℤ-pos u.number step_is.0;
    most = le_trans (mul-le-mul_right step_is.0 u.most) (div-mul-le_self span step_is.0);
  }

  pub way-fits : (v : ℤ) → UpTo span v → SFits w64 v
  way-fits v u = rw u.is (record { sfits = omega (arith, u.most, span_small) })

  pub way-sum-fits : (v : ℤ) → UpTo span v → SFits w64 (low +ℤ v)
  way-sum-fits v u = rw u.is (sum_fits u.number u.most)
