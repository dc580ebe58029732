-- Products subtracted from eight lanes at once: each lane loses its own. Assumes nothing.
use mathlib.Core.Path.{◌≡◌, ap, ◌∙◌}
use mathlib.Core.List.{List}
use Prim.Native.Nat.{ℕ, suc, ◌+◌, ◌*◌, ◌≤◌, ◌<◌}
use native.Mathlib.Nat.{mul-le-mul}
use native.Mathlib.Omega.{arith}
use lib.ListN.{get_or}
use lib.Ieee.{Float, nan, binary64, sub, mul, div}
use Rattle.factor.specs.Triangle.{at, less_of}
use Rattle.factor.proofs.Triangle.{size-suc, at_room}
use Rattle.lanes.specs.Rows.{eight_of}
use Rattle.lanes.proofs.Rows.{eight-at, eight-same}

-- each lane of s has lost n products
abbrev pub Lost : ℕ → (ℕ → Float) → (ℕ → ℕ → Float) → (ℕ → Float) → List Float → Type 0
Lost n x y b s = (p : ℕ) → p < 8 → get_or s p nan ≡ less_of n x (λ k. y k p) (b p)

module _ (n : ℕ) (x : ℕ → Float) (y : ℕ → ℕ → Float) (b : ℕ → Float) (s r : List Float) where
  -- one product more: of v and a row
  pub lost-more : (v : Float) (row : List Float) → v ≡ x n → ((p : ℕ) → p < 8 → get_or row p nan ≡ y n p) → Lost n x y b s → r ≡ eight_of (λ p. sub binary64 (get_or s p nan) (mul binary64 v (get_or row p nan))) → Lost (suc n) x y b r
  unfolding less_of
  lost-more v row hv hr hs e p h = eight-at _ e p h ∙ rw (hs p h, hv, hr p h)

  -- divided by d
  pub lost-over : (d : Float) → Lost n x y b s → r ≡ eight_of (λ p. div binary64 (get_or s p nan) d) → r ≡ eight_of (λ p. div binary64 (less_of n x (λ k. y k p) (b p)) d)
  lost-over d hs q = q ∙ eight-same _ _ (λ p h. ap (λ (t : Float). div binary64 t d) (hs p h))

-- a product that fits: twice where a row of the triangle starts
pub row_start : (i : ℕ) → i < 100 → i * (i + 1) ≤ 9900
row_start i h = let l : i ≤ 99 = omega arith in let u : i + 1 ≤ 100 = omega arith in mul-le-mul l u

-- entry i of row i + k, and i + 1 + k places on: entry i of the row after it
pub below-entry : (i k : ℕ) → at (i + k) i + (i + 1 + k) ≡ at (i + 1 + k) i
below-entry i k = let e : i + 1 + k ≡ suc (i + k) = omega arith in rw e (omega (arith, size-suc (i + k)))

pub below-room : (i k m : ℕ) {place : ℕ} → i + m < 100 → k < m → place ≡ at (i + k) i → place + (i + 1 + k) < 5050
below-room i k m h g e = rw (e, below-entry i k) (at_room (i + 1 + k) i (omega arith) (omega arith))
