-- std's square root is the definition. std takes the root to 2271 binary places and the definition to 600. Where it goes on, both round a number that lies strictly between the same two neighbours. Assumes nothing.
use mathlib.Core.Path.{◌≡◌, refl, sym, ap, ◌∙◌, subst}
use mathlib.Core.Logic.{inl, inr}
use Prim.Native.Nat.{ℕ, zero, suc, ◌+◌, ◌*◌, ◌/◌, ◌^◌, ◌≤◌, ◌<◌}
use native.Mathlib.Nat.{mul-le-mul_right, mul-lt-mul_of_pos_right, mul_assoc, mul_right_comm, mul-div_cancel, mul-pos}
use native.Mathlib.Omega.{arith}
use mathlib.Core.Bool.{Bool, true, false, not, cond}
use lib.Dec.{T, eqb, eqb→eq, T_not}
use lib.Pow.{pow-add, pow_pos}
use lib.IntN.{ℤ}
use lib.Ieee.{Float, nan, inf, fin, binary64, up, down, size, fits, sqrt, root_below, root_twice}
use lib.Ieee.Fits.{down_pos, eq→eqb}
use lib.Ieee.Root.{whole_part}
use lib.Ieee.Scale.{round_same}
use Rattle.root.specs.Sqrt.{sqrt_of}
use Rattle.root.proofs.RootWhole.{Root, sq-lt}
use Rattle.root.proofs.SqrtLaws as laws
use Rattle.root.proofs.SqrtLaws.{rounded, root, alike, halves-is}
use Rattle.arith.proofs.Zero.{zero_exponent}

-- std's digits: twice a whole root, or the odd number above it
abbrev twice : ℕ → Bool → ℕ
twice r b = 2 * r + cond b 0 1

-- ---- s is the whole root of n, and r that of n * w * w
module _ (n s w r : ℕ) (W : 0 < w) (a : Root n s) (b : Root (n * (w * w)) r) where
  exact : n ≤ s * s → twice r (eqb (r * r) (n * (w * w))) ≡ 2 * (s * w)
  exact h = go (eqb (r * r) (n * (w * w))) (T_not (eqb (r * r) (n * (w * w))))
    where
      square : n * (w * w) ≡ s * w * (s * w)
      square = let k = mul-le-mul_right (w * w) h in let l = mul-le-mul_right (w * w) a.0 in omega arith

      same : r ≡ s * w
      same =
          let e = square in
          let below : r < s * w + 1 = sq-lt r (s * w + 1) (omega (arith, b.0)) in
          let above : s * w < r + 1 = sq-lt (s * w) (r + 1) (omega (arith, b.1)) in
          omega arith

      go : (t : Bool) → (T (not t) → T (eqb (r * r) (n * (w * w))) → ⊥) → twice r t ≡ 2 * (s * w)
      go true f = let e = same in omega arith
      go false f = absurd (f tt (eq→eqb (ap (λ (x : ℕ). x * x) same ∙ sym square)))

  inexact : s * s < n → (s * (2 * w) < twice r (eqb (r * r) (n * (w * w)))) × (twice r (eqb (r * r) (n * (w * w))) < (s + 1) * (2 * w))
  inexact h = go (eqb (r * r) (n * (w * w))) (eqb→eq (r * r) (n * (w * w)))
    where
      least : s * w * (s * w) < n * (w * w)
      least = let k = mul-lt-mul_of_pos_right h (mul-pos W W) in omega arith

      most : n * (w * w) < (s + 1) * w * ((s + 1) * w)
      most = let k = mul-lt-mul_of_pos_right a.1 (mul-pos W W) in omega arith

      low : s * w < r + 1
      low = let l = least in sq-lt (s * w) (r + 1) (omega (arith, b.1))

      high : r < (s + 1) * w
      high = let l = most in sq-lt r ((s + 1) * w) (omega (arith, b.0))

      go : (t : Bool) → (T t → r * r ≡ n * (w * w)) → (s * (2 * w) < twice r t) × (twice r t < (s + 1) * (2 * w))
      go true e = let k = e tt in let l = least in let x : s * w < r = sq-lt (s * w) r (omega arith) in let y = high in omega arith
      go false e = let x = low in let y = high in omega arith

-- ---- with w for 2 ^ 1671 and c for 2 ^ 600
abbrev places : ℕ
places = 2 ^ 1671

digits : (n : ℕ) → root_twice n ≡ twice (root_below (size n) n) (eqb (root_below (size n) n * root_below (size n) n) n)
unfolding root_twice
digits n = refl

module _ (n s : ℕ) (a : Root n s) (big : 2 ^ 53 ≤ s) where
  abbrev N : ℕ
  N = n * (places * places)

  exact-alike : n ≤ s * s → rounded (root_twice N) (2 ^ 2272) ≡ rounded (2 * s) (2 ^ 601)
  exact-alike h = round_same binary64 false (root_twice N) (2 ^ 2272) (2 * s) (2 ^ 601) (pow_pos 2272) (pow_pos 601) (cross places (2 ^ 601) (2 ^ 2272) (pow-add 2 1671 601) (digits N ∙ exact n s places (root_below (size N) N) (pow_pos 1671) a (whole_part N) h))
    where
      cross : (w d q : ℕ) → q ≡ w * d → {x : ℕ} → x ≡ 2 * (s * w) → x * d ≡ 2 * s * q
      cross w d q e f = rw (e, f) (omega arith)

  inexact-alike : s * s < n → rounded (root_twice N) (2 ^ 2272) ≡ rounded (2 * s + 1) (2 ^ 601)
  inexact-alike h =
      let i = inexact n s places (root_below (size N) N) (pow_pos 1671) a (whole_part N) h in
      let b = between places (2 ^ 600) (2 ^ 2272) (pow_pos 600) (pow-add 2 1672 600) (subst (λ (x : ℕ). (s * (2 * places) < x) × (x < (s + 1) * (2 * places))) (sym (digits N)) i) in
      alike s big (root_twice N) (2 ^ 2272) (pow_pos 2272) b.0 b.1
    where
      between : (w c q : ℕ) → 0 < c → q ≡ 2 * w * c → {x : ℕ} → (s * (2 * w) < x) × (x < (s + 1) * (2 * w)) → (s * q < x * c) × (x * c < (s + 1) * q)
      between w c q C e i =
          let l = mul-lt-mul_of_pos_right i.0 C in
          let u = mul-lt-mul_of_pos_right i.1 C in
          rw e (omega arith)

  rounds-alike : rounded (root_twice N) (2 ^ 2272) ≡ root n s
  rounds-alike =
      elim (halves-is n s) [
        | inl x ↦ exact-alike x.0 ∙ ap (λ (h : ℕ). rounded h (2 ^ 601)) (sym x.1)
        | inr x ↦ inexact-alike x.0 ∙ ap (λ (h : ℕ). rounded h (2 ^ 601)) (sym x.1)
      ]

-- ---- a value m * 2 ^ e, which is n / 4 ^ 600
number : (m d n c w v : ℕ) → 0 < d → v ≡ c * c * (w * w) → n * d ≡ m * (c * c) → m * v / d ≡ n * (w * w)
number m d n c w v D e f = ap (λ (x : ℕ). x / d) (rw e (sym (mul_assoc m (c * c) (w * w)) ∙ ap (λ (x : ℕ). x * (w * w)) (sym f) ∙ mul_right_comm n d (w * w))) ∙ mul-div_cancel (n * (w * w)) D

power : 2 ^ 4542 ≡ 2 ^ 600 * 2 ^ 600 * (places * places)
power = refl

-- std's root of a float is the definition's
pub std_root : (x : Float) → T (fits binary64 x) → sqrt binary64 x ≡ sqrt_of x
unfolding sqrt sqrt_of
std_root nan t = refl
std_root (inf true) t = refl
std_root (inf false) t = refl
std_root (fin s zero e) t = ap (λ (k : ℤ). fin s 0 k) (sym (zero_exponent s e t))
std_root (fin true (suc m) e) t = refl
std_root (fin false (suc m) e) t =
    let n = laws.n m e t in
    let s = laws.s m e t in
    ap (λ (x : ℕ). rounded (root_twice x) (2 ^ 2272)) (number (suc m * up e) (down e) n (2 ^ 600) places (2 ^ 4542) (down_pos e) power (laws.scaled m e t))
    ∙ rounds-alike n s (laws.is-root m e t) (laws.big m e t)
    ∙ sym (laws.value m e t)
