-- The whole numbers behind the square root. Nothing here is about floats. Assumes nothing.
use mathlib.Core.Path.{◌≡◌, subst}
use Prim.Native.Nat.{ℕ, zero, suc, ◌+◌, ◌*◌, ◌/◌, ◌^◌, ◌≤◌, ◌<◌}
use native.Mathlib.Nat.{lt_of_not-le, not-le_of_lt, mul-le-mul, mul_comm, mul_assoc, mul_left_comm, mul-add, add-mul, pow-suc}
use native.Mathlib.Omega.{arith}
use mathlib.Core.Bool.{Bool, true, false, not, cond}
use lib.Dec.{T, leb, leb→le, nleb→lt}
use Rattle.root.specs.Sqrt.{better, isqrt}

-- a square below a square
pub sq-lt : (a b : ℕ) → a * a < b * b → a < b
sq-lt a b h = lt_of_not-le (λ (g : b ≤ a). not-le_of_lt h (mul-le-mul g g))

-- ---- isqrt
abbrev pub Root : ℕ → ℕ → Type 0
Root n r = (r * r ≤ n) × (n < (r + 1) * (r + 1))

better-root : (n r : ℕ) → r * r ≤ n → n < (r + 2) * (r + 2) → Root n (better n r)
better-root n r a b = go (leb ((r + 1) * (r + 1)) n) (leb→le ((r + 1) * (r + 1)) n) (nleb→lt ((r + 1) * (r + 1)) n)
  where
    go : (t : Bool) → (T t → (r + 1) * (r + 1) ≤ n) → (T (not t) → n < (r + 1) * (r + 1)) → Root n (cond t (r + 1) r)
    go true p q = (p tt, subst (λ (x : ℕ). n < x * x) (let e : r + 2 ≡ r + 1 + 1 = omega arith in e) b)
    go false p q = (a, q tt)

pub isqrt-root : (k n : ℕ) → n < 4 ^ k → Root n (isqrt k n)
unfolding isqrt
isqrt-root zero n h = (omega arith, omega arith)
isqrt-root (suc k) n h = step (isqrt k (n / 4)) (isqrt-root k (n / 4) (quarter (4 ^ k) (pow-suc 4 k) h))
  where
    quarter : (p : ℕ) → 4 ^ suc k ≡ p * 4 → n < 4 ^ suc k → n / 4 < p
    quarter p e l = omega arith

    step : (r : ℕ) → Root (n / 4) r → Root n (better n (2 * r))
    step r q =
        let x : 2 * r * (2 * r) ≡ 4 * (r * r) = simp (mul_assoc, mul_left_comm) (omega arith) in
        let y : (2 * r + 2) * (2 * r + 2) ≡ 4 * ((r + 1) * (r + 1)) = simp (mul-add, add-mul, mul_assoc, mul_comm, mul_left_comm) (omega arith) in
        better-root n (2 * r) (let u = q.0 in omega arith) (let v = q.1 in omega arith)
