-- A fraction below 2 ^ t, rounded to binary64, is off by 2 ^ (t - 54) at most: half a unit of the last digit that is kept. Assumes nothing.
use Rattle.std.proofs.Common.{◌≡◌, ℕ, zero, suc, ◌+◌, ◌*◌, ◌/◌, ◌%◌, ◌^◌, ◌<◌, ◌≤◌, false, not, T, sym, ap, ◌∙◌, subst, le_trans, le_of_eq, lt_of_lt_of_le, mul-le-mul_right, mod-lt, mul_assoc, mul_comm, div-lt_iff_lt-mul, add-mul, mul-lt-mul_of_pos_right, mul-pos, one-mul, div-add-mod', mul_right_comm, le_of_mul-le-mul_right, mul_left_comm, arith, eqb→eq, leb→le, pow_pos, pow_mono, pow-add}
use Prim.Native.Nat.{compare, Ordering}
use lib.Dec.{is_le, compare_is_eq, nleb→lt}
use lib.Ieee.{Float, binary64, size, nearest, round}
use lib.Ieee.Digits.{size-le}
use lib.Ieee.Exact.{HasValue}
use lib.Ieee.Nearest.{closest}
use lib.Ieee.Order.{drop, kept}
use lib.Ieee.Scale.{grid, round_val, round_under, finite}
use lib.Ieee.Positive.{num, den, value→cross}

-- ---- rounding to the nearest whole number is off by a half at most
around : (u q r : ℕ) (o : Ordering) → r < u → (T (is_le o) → r * 2 ≤ u) → (T (not (is_le o)) → u < r * 2) → (T (compare_is_eq o) → r * 2 ≡ u)
    → (2 * (nearest q o * u) ≤ 2 * (q * u + r) + u) × (2 * (q * u + r) ≤ 2 * (nearest q o * u) + u)
around u q r Ordering.lt l a b e = let h = a tt in (omega arith, omega arith)
around u q r Ordering.gt l a b e =
    let h = b tt in
    let s : suc q * u ≡ q * u + u = ap (λ (x : ℕ). x * u) (let z : suc q ≡ q + 1 = omega arith in z) ∙ add-mul q 1 u ∙ ap (λ (x : ℕ). q * u + x) (one-mul u) in
    (omega arith, omega arith)
around u q r Ordering.eq l a b e =
    let h = e tt in
    go (q % 2) (let m : q % 2 < 2 = omega arith in m)
  where
    go : (k : ℕ) → k < 2 → (2 * ((q + k) * u) ≤ 2 * (q * u + r) + u) × (2 * (q * u + r) ≤ 2 * ((q + k) * u) + u)
    go zero l' = let s : (q + 0) * u ≡ q * u = ap (λ (x : ℕ). x * u) (let z : q + 0 ≡ q = omega arith in z) in let h = e tt in (omega arith, omega arith)
    go (suc zero) l' = let s : (q + 1) * u ≡ q * u + u = add-mul q 1 u ∙ ap (λ (x : ℕ). q * u + x) (one-mul u) in let h = e tt in (omega arith, omega arith)
    go (suc (suc k)) l' = absurd (omega arith)

pub closest-error : (n u : ℕ) → 0 < u → (2 * (closest n u * u) ≤ 2 * n + u) × (2 * n ≤ 2 * (closest n u * u) + u)
closest-error n u U =
    subst (λ (x : ℕ). (2 * (closest n u * u) ≤ 2 * x + u) × (2 * x ≤ 2 * (closest n u * u) + u)) (div-add-mod' n u)
    (around u (n / u) (n % u) (compare (n % u * 2) u) (mod-lt n U) (leb→le (n % u * 2) u) (nleb→lt (n % u * 2) u) (eqb→eq (n % u * 2) u))

-- ---- x and y differ by half of d * u, and u is p * w / 2 ^ 53 at most
widen : (x y d u p w : ℕ) → 2 * x ≤ 2 * y + d * u → u * 2 ^ 53 ≤ p * w → x * 2 ^ 54 ≤ y * 2 ^ 54 + p * (d * w)
widen x y d u p w h k =
    let a : d * u * 2 ^ 53 ≤ p * (d * w) = simp (mul_assoc, mul_comm, mul_left_comm) (simp (mul_assoc, mul_comm, mul_left_comm) at (mul-le-mul_right d k)) in
    omega arith

-- x, y and z over w are x', y' and z' over e
rescale : (x y z x' y' z' p w e : ℕ) → 0 < w → x * e ≡ x' * w → y * e ≡ y' * w → z * e ≡ z' * w → x * 2 ^ 54 ≤ y * 2 ^ 54 + p * z → x' * 2 ^ 54 ≤ y' * 2 ^ 54 + p * z'
rescale x y z x' y' z' p w e P a b c h =
    le_of_mul-le-mul_right (le_trans (le_of_eq (sym (by x x' a))) (le_trans (mul-le-mul_right e h) (le_of_eq both))) P
  where
    by : (m n : ℕ) → m * e ≡ n * w → m * 2 ^ 54 * e ≡ n * 2 ^ 54 * w
    by m n q = mul_right_comm m (2 ^ 54) e ∙ ap (λ (k : ℕ). k * 2 ^ 54) q ∙ mul_right_comm n w (2 ^ 54)

    both : (y * 2 ^ 54 + p * z) * e ≡ (y' * 2 ^ 54 + p * z') * w
    both =
        add-mul (y * 2 ^ 54) (p * z) e
        ∙ ap (λ (k : ℕ). k + p * z * e) (by y y' b)
        ∙ ap (λ (k : ℕ). y' * 2 ^ 54 * w + k) (mul_assoc p z e ∙ ap (λ (k : ℕ). p * k) c ∙ sym (mul_assoc p z' w))
        ∙ sym (add-mul (y' * 2 ^ 54) (p * z') w)

module _ (t n d : ℕ) (D : 0 < d) (small : n < 2 ^ t * d) where
  k : ℕ
  k = drop 53 (n * 2 ^ 1074) d

  few : 2 ^ k * 2 ^ 53 ≤ 2 ^ t * 2 ^ 1074
  unfolding k
  few =
      let s : size (n * 2 ^ 1074 / d) ≤ t + 1074 = size-le (n * 2 ^ 1074 / d) (t + 1074) ((div-lt_iff_lt-mul D).1 (lt_of_lt_of_le (mul-lt-mul_of_pos_right small (pow_pos 1074)) (le_of_eq (mul_right_comm (2 ^ t) d (2 ^ 1074) ∙ ap (λ (x : ℕ). x * d) (sym (pow-add 2 t 1074)))))) in
      le_trans (le_of_eq (sym (pow-add 2 k 53))) (le_trans (pow_mono {i = k + 53} {j = t + 1074} (omega arith)) (le_of_eq (pow-add 2 t 1074)))

  -- in units of the smallest value
  on-grid : (2 * (grid binary64 n d * d) ≤ 2 * (n * 2 ^ 1074) + d * 2 ^ k) × (2 * (n * 2 ^ 1074) ≤ 2 * (grid binary64 n d * d) + d * 2 ^ k)
  unfolding k
  on-grid =
      let g : kept 53 (n * 2 ^ 1074) d * (d * 2 ^ k) ≡ grid binary64 n d * d = simp (mul_assoc, mul_comm, mul_left_comm) in
      subst (λ (x : ℕ). (2 * x ≤ 2 * (n * 2 ^ 1074) + d * 2 ^ k) × (2 * (n * 2 ^ 1074) ≤ 2 * x + d * 2 ^ k)) g (closest-error (n * 2 ^ 1074) (d * 2 ^ k) (mul-pos D (pow_pos k)))

  pub half-unit : (r : Float) → r ≡ round binary64 false n d → T (finite r)
      → (num r * d * 2 ^ 54 ≤ n * den r * 2 ^ 54 + 2 ^ t * (d * den r)) × (n * den r * 2 ^ 54 ≤ num r * d * 2 ^ 54 + 2 ^ t * (d * den r))
  half-unit r q F =
      let g = grid binary64 n d in
      let is = subst (λ (y : Float). HasValue y false g (2 ^ 1074)) (sym q) (round_val binary64 n d (round_under binary64 n d (subst (λ (y : Float). T (finite y)) q F))) in
      let v : num r * 2 ^ 1074 ≡ g * den r = value→cross r g (2 ^ 1074) is in
      let x : g * d * den r ≡ num r * d * 2 ^ 1074 = mul_right_comm g d (den r) ∙ ap (λ (z : ℕ). z * d) (sym v) ∙ mul_right_comm (num r) (2 ^ 1074) d in
      let y = mul_right_comm n (2 ^ 1074) (den r) in
      let z = mul_right_comm d (2 ^ 1074) (den r) in (
        rescale (g * d) (n * 2 ^ 1074) (d * 2 ^ 1074) (num r * d) (n * den r) (d * den r) (2 ^ t) (2 ^ 1074) (den r) (pow_pos 1074) x y z (widen (g * d) (n * 2 ^ 1074) d (2 ^ k) (2 ^ t) (2 ^ 1074) on-grid.0 few),
        rescale (n * 2 ^ 1074) (g * d) (d * 2 ^ 1074) (n * den r) (num r * d) (d * den r) (2 ^ t) (2 ^ 1074) (den r) (pow_pos 1074) y x z (widen (n * 2 ^ 1074) (g * d) d (2 ^ k) (2 ^ t) (2 ^ 1074) on-grid.1 few),
      )
