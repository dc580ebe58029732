-- The square root's definition is correctly rounded, and nothing else is: all fractions strictly between s / 2 ^ 600 and (s + 1) / 2 ^ 600 round alike, so the root and what `halves` has in its place do. Assumes nothing.
use mathlib.Core.Path.{◌≡◌, refl, sym, ap, ◌∙◌, subst}
use mathlib.Core.Logic.{◌↔◌, ◌⊎◌, inl, inr}
use Prim.Native.Nat.{ℕ, zero, suc, ◌+◌, ◌-◌, ◌*◌, ◌/◌, ◌^◌, ◌≤◌, ◌<◌}
use native.Mathlib.Nat.{add-zero, zero-lt-suc, le_refl, le_trans, le_of_eq, le_of_lt, le_antisymm, lt_irrefl, lt_of_le_of_lt, lt_of_lt_of_le, lt_of_not-le, not-le_of_lt, mul-le-mul, mul-le-mul_right, mul-lt-mul_of_pos_right, le_of_mul-le-mul_right, lt_of_mul-lt-mul_right, mul-one, mul_comm, mul_assoc, mul_left_comm, mul_right_comm, mul-pos, add-mul, one-mul, mul-div_cancel, div-mul-le_self, lt-div-mul-add, le-div_iff_mul-le, div-lt_iff_lt-mul}
use native.Mathlib.Omega.{arith}
use mathlib.Core.Bool.{true, false}
use lib.Dec.{T, leb, ltb, leb→le, nleb→lt, ltb→lt, nltb→le}
use lib.Pow.{pow-add, pow_pos, pow_mono}
use lib.IntN.{ℤ}
use lib.Ieee.{Float, nan, fin, binary64, up, down, size, units, round, le, fits}
use lib.Ieee.Bits.{is_true, is_false}
use lib.Ieee.Digits.{size-lt, size-le, size_reaches}
use lib.Ieee.Exact.{HasValue}
use lib.Ieee.Fits.{round_is, round-fits, down_pos}
use lib.Ieee.Nearest.{closest}
use lib.Ieee.Order.{drop, kept, round_mono}
use lib.Ieee.Positive as positive
use lib.Ieee.Positive.{num, den}
use lib.Ieee.Scale.{round_same}
use Rattle.root.specs.Sqrt.{halves, isqrt, root_of, sqrt_of}
use Rattle.root.specs.Rooted.{Rooted, SqrtIsRounded}
use Rattle.arith.proofs.HalfUnit.{closest-error}
use Rattle.arith.proofs.Held as held
use Rattle.arith.proofs.Held.{below_end}
use Rattle.arith.proofs.Nearest.{grid-form}
use Rattle.root.proofs.RootWhole.{Root, isqrt-root, sq-lt}
use Rattle.arith.proofs.Tests.{either}

abbrev pub rounded : ℕ → ℕ → Float
rounded p q = round binary64 false p q

-- ---- the whole number nearest to a / u, which lies strictly between g / 2 and (g + 1) / 2
closest-is : (a u g : ℕ) → 0 < u → g * u < 2 * a → 2 * a < (g + 1) * u → closest a u ≡ (g + 1) / 2
closest-is a u g U lo hi =
    let e = closest-error a u U in
    let hi' : (g + 1) * u ≡ g * u + u = add-mul g 1 u ∙ ap (λ (y : ℕ). g * u + y) (one-mul u) in
    let x : g < 2 * closest a u + 1 = lt_of_mul-lt-mul_right u (let d : (2 * closest a u + 1) * u ≡ 2 * (closest a u * u) + u = simp (add-mul, mul_assoc, one-mul) in omega arith) in
    let y : 2 * closest a u < g + 2 = lt_of_mul-lt-mul_right u (let d : 2 * closest a u * u ≡ 2 * (closest a u * u) = mul_assoc 2 (closest a u) u in let f : (g + 2) * u ≡ g * u + 2 * u = add-mul g 2 u in omega arith) in
    omega arith

size-gt : (n j : ℕ) → 2 ^ j ≤ n → j < size n
size-gt n j h = lt_of_not-le (λ (g : size n ≤ j). not-le_of_lt (lt_of_lt_of_le (size-lt n) (pow_mono g)) h)

-- ---- A fraction x / q strictly between s, which has 54 + j digits, and s + 1. Times 2 ^ t it drops 1 + j + t digits, and what it keeps lies strictly between two halves that s alone decides.
module _ (j t s x q : ℕ) (Q : 0 < q) (lo : s * q < x) (hi : x < (s + 1) * q) (least : 2 ^ (53 + j) ≤ s) (most : s < 2 ^ (54 + j)) where
  digits : drop 53 (x * 2 ^ t) q ≡ 1 + j + t
  digits =
      count (size (x * 2 ^ t / q))
      (size-gt (x * 2 ^ t / q) (53 + j + t) ((le-div_iff_mul-le Q).1 (le_trans (le_of_eq (shifted (53 + j))) (mul-le-mul_right (2 ^ t) from))))
      (size-le (x * 2 ^ t / q) (54 + j + t) ((div-lt_iff_lt-mul Q).1 (lt_of_lt_of_le (mul-lt-mul_of_pos_right to (pow_pos t)) (le_of_eq (sym (shifted (54 + j)))))))
    where
      shifted : (n : ℕ) → 2 ^ (n + t) * q ≡ 2 ^ n * q * 2 ^ t
      shifted n = ap (λ (y : ℕ). y * q) (pow-add 2 n t) ∙ mul_right_comm (2 ^ n) (2 ^ t) q

      from : 2 ^ (53 + j) * q ≤ x
      from = le_trans (mul-le-mul_right q least) (le_of_lt lo)

      to : x < 2 ^ (54 + j) * q
      to = lt_of_lt_of_le hi (mul-le-mul_right q (let h : s + 1 ≤ 2 ^ (54 + j) = omega arith in h))

      count : (z : ℕ) → 53 + j + t < z → z ≤ 54 + j + t → z - 53 ≡ 1 + j + t
      count z l h = omega arith

  last : closest (x * 2 ^ t) (q * 2 ^ (1 + j + t)) ≡ (s / 2 ^ j + 1) / 2
  last =
      ap (λ (y : ℕ). closest (x * 2 ^ t) (q * y)) (pow-add 2 (1 + j) t ∙ ap (λ (y : ℕ). y * 2 ^ t) (pow-add 2 1 j))
      ∙ go (s / 2 ^ j) (2 ^ j) (2 ^ t) (pow_pos j) (pow_pos t) (div-mul-le_self s (2 ^ j)) (lt-div-mul-add (pow_pos j))
    where
      go : (g w b : ℕ) → 0 < w → 0 < b → g * w ≤ s → s < g * w + w → closest (x * b) (q * (2 * w * b)) ≡ (g + 1) / 2
      go g w b W B l h =
          let lo' = mul-lt-mul_of_pos_right lo B in
          let hi' = mul-lt-mul_of_pos_right hi B in
          let l' = mul-le-mul_right (q * b) l in
          let h' = mul-le-mul_right (q * b) h in
          closest-is (x * b) (q * (2 * w * b)) g (mul-pos Q (mul-pos (mul-pos (pow_pos 1) W) B)) (omega arith) (omega arith)

-- ---- so the fractions strictly between s / 2 ^ 600 and (s + 1) / 2 ^ 600 round alike, where s has 54 digits or more
module _ (s : ℕ) (big : 2 ^ 53 ≤ s) where
  strictly : (p q : ℕ) → 0 < q → s * q < p * 2 ^ 600 → p * 2 ^ 600 < (s + 1) * q → rounded p q ≡ units binary64 false ((s / 2 ^ (size s - 54) + 1) / 2) (1 + (size s - 54) + 474)
  strictly p q Q lo hi =
      let j = size s - 54 in
      let z : size s ≡ 54 + j = all (size s) (size-gt s 53 big) in
      let least : 2 ^ (53 + j) ≤ s = size_reaches s (53 + j) (omega arith) in
      let most : s < 2 ^ (54 + j) = subst (λ (y : ℕ). s < 2 ^ y) z (size-lt s) in
      round_is binary64 false p q
      ∙ ap (λ (n : ℕ). units binary64 false (kept 53 n q) (drop 53 n q)) (sym (mul_assoc p (2 ^ 600) (2 ^ 474)))
      ∙ ap (λ (k : ℕ). units binary64 false (closest (p * 2 ^ 600 * 2 ^ 474) (q * 2 ^ k)) k) (digits j 474 s (p * 2 ^ 600) q Q lo hi least most)
      ∙ ap (λ (n : ℕ). units binary64 false n (1 + j + 474)) (last j 474 s (p * 2 ^ 600) q Q lo hi least most)
    where
      all : (z : ℕ) → 53 < z → z ≡ 54 + (z - 54)
      all z h = omega arith

  pub alike : (p q : ℕ) → 0 < q → s * q < p * 2 ^ 600 → p * 2 ^ 600 < (s + 1) * q → rounded p q ≡ rounded (2 * s + 1) (2 ^ 601)
  alike p q Q lo hi = strictly p q Q lo hi ∙ sym (strictly (2 * s + 1) (2 ^ 601) (pow_pos 601) (middle (2 ^ 600) (pow_pos 600)).0 (middle (2 ^ 600) (pow_pos 600)).1)
    where
      middle : (c : ℕ) → 0 < c → (s * (2 * c) < (2 * s + 1) * c) × ((2 * s + 1) * c < (s + 1) * (2 * c))
      middle c C = omega arith

-- ---- p / q and h / 2 ^ 601 rounded, with y / 2 ^ 600 between the two
module _ (p q h : ℕ) (Q : 0 < q) (y : ℕ) where
  le-halves : p * 2 ^ 600 ≤ y * q → 2 * y ≤ h → T (le (rounded p q) (rounded h (2 ^ 601)))
  le-halves k l = round_mono binary64 p q h (2 ^ 601) Q (pow_pos 601) (go (2 ^ 600) k)
    where
      go : (c : ℕ) → p * c ≤ y * q → p * (2 * c) ≤ h * q
      go c k = let m = mul-le-mul_right q l in omega arith

  halves-le : h ≤ 2 * y → y * q ≤ p * 2 ^ 600 → T (le (rounded h (2 ^ 601)) (rounded p q))
  halves-le l k = round_mono binary64 h (2 ^ 601) p q (pow_pos 601) Q (go (2 ^ 600) k)
    where
      go : (c : ℕ) → y * q ≤ p * c → h * q ≤ p * (2 * c)
      go c k = let m = mul-le-mul_right q l in omega arith

-- ---- from squares to roots: x / q on one side of the root of n, and y on the other
module _ (n x y q : ℕ) where
  root-le : n ≤ y * y → x * x ≤ n * (q * q) → x ≤ y * q
  root-le l h = let m = mul-le-mul_right (q * q) l in let k : x < y * q + 1 = sq-lt x (y * q + 1) (omega arith) in omega arith

  le-root : y * y ≤ n → n * (q * q) ≤ x * x → y * q ≤ x
  le-root l h = let m = mul-le-mul_right (q * q) l in let k : y * q < x + 1 = sq-lt (y * q) (x + 1) (omega arith) in omega arith

  root-lt : 0 < q → n < y * y → x * x ≤ n * (q * q) → x < y * q
  root-lt Q l h = let m = mul-lt-mul_of_pos_right l (mul-pos Q Q) in sq-lt x (y * q) (omega arith)

  lt-root : 0 < q → y * y < n → n * (q * q) ≤ x * x → y * q < x
  lt-root Q l h = let m = mul-lt-mul_of_pos_right l (mul-pos Q Q) in sq-lt (y * q) x (omega arith)

-- ---- fractions on both sides of the root of n: s itself where that is the root, and else two that lie strictly between s and s + 1
module _ (s c : ℕ) where
  whole_le : (n : ℕ) → s * s ≤ n → s * c * (s * c) ≤ n * (c * c)
  whole_le n h = let k = mul-le-mul_right (c * c) h in omega arith

  le-whole : (n : ℕ) → n ≤ s * s → n * (c * c) ≤ s * c * (s * c)
  le-whole n h = let k = mul-le-mul_right (c * c) h in omega arith

  abbrev p₁ : ℕ
  p₁ = s * (2 * s + 1) + 1

  abbrev q₁ : ℕ
  q₁ = (2 * s + 1) * c

  abbrev p₂ : ℕ
  p₂ = (s + 1) * (2 * s + 1) + s

  abbrev q₂ : ℕ
  q₂ = (2 * s + 2) * c

  inside : 0 < s → 0 < c → (s * q₁ < p₁ * c) × (p₁ * c < (s + 1) * q₁) × (s * q₂ < p₂ * c) × (p₂ * c < (s + 1) * q₂)
  inside S C = let k = mul-pos S C in omega arith

  fraction-le : (n : ℕ) → s * s < n → p₁ * c * (p₁ * c) ≤ n * (q₁ * q₁)
  fraction-le n h = let k = mul-le-mul_right (q₁ * q₁) h in omega arith

  le-fraction : (n : ℕ) → n < (s + 1) * (s + 1) → n * (q₂ * q₂) ≤ p₂ * c * (p₂ * c)
  le-fraction n h = let k = mul-le-mul_right (q₂ * q₂) h in omega arith

-- ---- what `Rooted` says, for the value n / 4 ^ 600
abbrev Below : ℕ → Float → Type 0
Below n r = (p q : ℕ) → 0 < q → p * 2 ^ 600 * (p * 2 ^ 600) ≤ n * (q * q) → T (le (rounded p q) r)

abbrev Above : ℕ → Float → Type 0
Above n r = (p q : ℕ) → 0 < q → n * (q * q) ≤ p * 2 ^ 600 * (p * 2 ^ 600) → T (le r (rounded p q))

-- n is s * s, or strictly between s * s and (s + 1) * (s + 1)
pub halves-is : (n s : ℕ) → ((n ≤ s * s) × (halves n s ≡ 2 * s)) ⊎ ((s * s < n) × (halves n s ≡ 2 * s + 1))
halves-is n s =
    elim (either (ltb (s * s) n)) [
      | inl t ↦ inr (ltb→lt (s * s) n t, rw (is_true (ltb (s * s) n) t))
      | inr t ↦ inl (nltb→le (s * s) n t, rw (is_false (ltb (s * s) n) t) (add-zero (2 * s)))
    ]

abbrev pub root : ℕ → ℕ → Float
root n s = rounded (halves n s) (2 ^ 601)

module _ (n s : ℕ) (r : Root n s) (big : 2 ^ 53 ≤ s) where
  same : (p q : ℕ) → 0 < q → halves n s ≡ 2 * s + 1 → s * q < p * 2 ^ 600 → p * 2 ^ 600 < (s + 1) * q → root n s ≡ rounded p q
  same p q Q o lo hi = ap (λ (h : ℕ). rounded h (2 ^ 601)) o ∙ sym (alike s big p q Q lo hi)

  itself : T (le (root n s) (root n s))
  itself = round_mono binary64 (halves n s) (2 ^ 601) (halves n s) (2 ^ 601) (pow_pos 601) (pow_pos 601) (le_refl (halves n s * 2 ^ 601))

  below : Below n (root n s)
  below p q Q h =
      let x = p * 2 ^ 600 in
      elim (halves-is n s) [
        | inl a ↦ le-halves p q (halves n s) Q s (root-le n x s q a.0 h) (le_of_eq (sym a.1))
        | inr b ↦
            elim (either (leb x (s * q))) [
              | inl k ↦ le-halves p q (halves n s) Q s (leb→le x (s * q) k) (let o = b.1 in omega arith)
              | inr k ↦ subst (λ (y : Float). T (le y (root n s))) (same p q Q b.1 (nleb→lt x (s * q) k) (root-lt n x (s + 1) q Q r.1 h)) itself
            ]
      ]

  above : Above n (root n s)
  above p q Q h =
      let x = p * 2 ^ 600 in
      elim (halves-is n s) [
        | inl a ↦ halves-le p q (halves n s) Q s (le_of_eq a.1) (le-root n x s q r.0 h)
        | inr b ↦
            elim (either (leb ((s + 1) * q) x)) [
              | inl k ↦ halves-le p q (halves n s) Q (s + 1) (let o = b.1 in omega arith) (leb→le ((s + 1) * q) x k)
              | inr k ↦ subst (λ (y : Float). T (le (root n s) y)) (same p q Q b.1 (lt-root n x s q Q b.0 h) (nleb→lt ((s + 1) * q) x k)) itself
            ]
      ]

  -- so does no other value: fractions on both sides of the root round as it does
  between : (y : Float) → Below n y → Above n y → T (le (root n s) y) × T (le y (root n s))
  between y f g =
      let c = 2 ^ 600 in
      let C : 0 < c = pow_pos 600 in
      elim (halves-is n s) [
        | inl a ↦
            let e : root n s ≡ rounded s c = round_same binary64 false (halves n s) (2 ^ 601) s c (pow_pos 601) C (ap (λ (h : ℕ). h * c) (a.1 ∙ mul_comm 2 s) ∙ mul_assoc s 2 c) in
            by s c s c C C e e (whole_le s c n r.0) (le-whole s c n a.0)
        | inr b ↦
            let i = inside s c (lt_of_lt_of_le (pow_pos 53) big) C in
            let Q₁ : 0 < q₁ s c = mul-pos (omega arith) C in
            let Q₂ : 0 < q₂ s c = mul-pos (omega arith) C in
            by (p₁ s c) (q₁ s c) (p₂ s c) (q₂ s c) Q₁ Q₂ (same _ _ Q₁ b.1 i.0 i.1) (same _ _ Q₂ b.1 i.2 i.3) (fraction-le s c n b.0) (le-fraction s c n r.1)
      ]
    where
      by : (p q p' q' : ℕ) (Q : 0 < q) (Q' : 0 < q') → root n s ≡ rounded p q → root n s ≡ rounded p' q' → p * 2 ^ 600 * (p * 2 ^ 600) ≤ n * (q * q) → n * (q' * q') ≤ p' * 2 ^ 600 * (p' * 2 ^ 600) → T (le (root n s) y) × T (le y (root n s))
      by p q p' q' Q Q' e e' h h' = (subst (λ (z : Float). T (le z y)) (sym e) (f p q Q h), subst (λ (z : Float). T (le y z)) (sym e') (g p' q' Q' h'))

-- ---- values that fit and are the same number are the same
value_of : (x y : Float) → T (positive.positive y) → num x * den y ≡ num y * den x → HasValue y false (num x) (den x)
value_of x (fin false n d) q h = (refl, sym h)
value_of x nan q h = elim q [ ]
value_of x (lib.Ieee.inf _) q h = elim q [ ]
value_of x (fin true n d) q h = elim q [ ]

same-value : (x y : Float) → T (fits binary64 x) → T (fits binary64 y) → T (positive.positive x) → T (positive.positive y) → T (le x y) → T (le y x) → x ≡ y
same-value x y f g p q h k =
    held.same-value binary64 x y false (num x) (den x) (positive.den_pos x) f g (positive.own_value x p)
    (value_of x y q (le_antisymm (positive.le→cross x y p q h) (positive.le→cross y x q p k)))

-- ---- a root from 2 ^ -537 to 2 ^ 512 is finite and above zero
is_positive : (n : ℕ) (y : Float) → 2 ^ 126 ≤ n → n < 4 ^ 1112 → Below n y → Above n y → T (positive.positive y)
unfolding round
is_positive n y lo hi f g = positive.between (rounded 1 (2 ^ 537)) y (rounded (2 ^ 512) 1) tt tt (f 1 (2 ^ 537) (pow_pos 537) (mul-le-mul_right (2 ^ 1074) lo)) (g (2 ^ 512) 1 (pow_pos 0) (le_trans (le_of_eq (mul-one n)) (le_of_lt hi)))

-- ---- it is the same for m * 2 ^ e, where that is n / 4 ^ 600
module _ (a d n c : ℕ) (D : 0 < d) (C : 0 < c) (e : n * d ≡ a * (c * c)) (p q : ℕ) where
  left : p * c * (p * c) * d ≡ p * p * d * (c * c)
  left = simp (mul_assoc, mul_comm, mul_left_comm)

  right : n * (q * q) * d ≡ a * (q * q) * (c * c)
  right = mul_right_comm n (q * q) d ∙ ap (λ (y : ℕ). y * (q * q)) e ∙ mul_right_comm a (c * c) (q * q)

  at_most : (p * p * d ≤ a * (q * q)) ↔ (p * c * (p * c) ≤ n * (q * q))
  at_most = (
    λ h. le_of_mul-le-mul_right (le_trans (le_of_eq left) (le_trans (mul-le-mul_right (c * c) h) (le_of_eq (sym right)))) D,
    λ h. le_of_mul-le-mul_right (le_trans (le_of_eq (sym left)) (le_trans (mul-le-mul_right d h) (le_of_eq right))) (mul-pos C C),
  )

  at-least : (a * (q * q) ≤ p * p * d) ↔ (n * (q * q) ≤ p * c * (p * c))
  at-least = (
    λ h. le_of_mul-le-mul_right (le_trans (le_of_eq right) (le_trans (mul-le-mul_right (c * c) h) (le_of_eq (sym left)))) D,
    λ h. le_of_mul-le-mul_right (le_trans (le_of_eq (sym right)) (le_trans (mul-le-mul_right d h) (le_of_eq left))) (mul-pos C C),
  )

rooted-iff : (m n : ℕ) (e : ℤ) → n * down e ≡ m * up e * (2 ^ 600 * 2 ^ 600) → (r : Float) → Rooted m e r ↔ (T (fits binary64 r) × Below n r × Above n r)
rooted-iff m n e h r =
    let most = at_most (m * up e) (down e) n (2 ^ 600) (down_pos e) (pow_pos 600) h in
    let least = at-least (m * up e) (down e) n (2 ^ 600) (down_pos e) (pow_pos 600) h in (
      λ (R : Rooted m e r). (R.representable, λ p q Q k. R.below p q Q ((most p q).1 k), λ p q Q k. R.above p q Q ((least p q).1 k)),
      λ R. record { representable = R.0; below = λ p q Q k. R.1 p q Q ((most p q).0 k); above = λ p q Q k. R.2 p q Q ((least p q).0 k) },
    )

-- ---- the value m * 2 ^ e, which is m * 2 ^ j of the format's smallest: the definition takes the root of an n from 2 ^ 126 up, so s is 2 ^ 63 at least
module _ (m : ℕ) (e : ℤ) (t : T (fits binary64 (fin false (suc m) e))) where
  abbrev j : ℕ
  j = (grid-form binary64 false (suc m) e t).1.0

  abbrev pub n : ℕ
  n = suc m * 2 ^ (j + 126)

  abbrev pub s : ℕ
  s = isqrt 1112 n

  units_of : suc m * up e * 2 ^ 1074 ≡ suc m * 2 ^ j * down e
  units_of = (grid-form binary64 false (suc m) e t).1.1

  pub scaled : n * down e ≡ suc m * up e * (2 ^ 600 * 2 ^ 600)
  scaled =
      ap (λ (y : ℕ). y * down e) (ap (λ (y : ℕ). suc m * y) (pow-add 2 j 126) ∙ sym (mul_assoc (suc m) (2 ^ j) (2 ^ 126)))
      ∙ mul_right_comm (suc m * 2 ^ j) (2 ^ 126) (down e)
      ∙ ap (λ (y : ℕ). y * 2 ^ 126) (sym units_of)
      ∙ mul_assoc (suc m * up e) (2 ^ 1074) (2 ^ 126)

  least : 2 ^ 126 ≤ n
  least = mul-le-mul (zero-lt-suc m) (pow_mono {i = 126} {j = j + 126} (omega arith))

  most : n < 4 ^ 1112
  most =
      lt_of_mul-lt-mul_right (down e)
      (lt_of_le_of_lt (le_of_eq scaled) (lt_of_lt_of_le (mul-lt-mul_of_pos_right (below_end binary64 false (suc m) e t) (pow_pos 1200)) (le_of_eq (mul_right_comm (2 ^ 1024) (down e) (2 ^ 1200)))))

  pub is-root : Root n s
  is-root = isqrt-root 1112 n most

  pub big : 2 ^ 53 ≤ s
  big = go s (sq-lt (2 ^ 63) (s + 1) (lt_of_le_of_lt least is-root.1))
    where
      go : (x : ℕ) → 2 ^ 63 < x + 1 → 2 ^ 53 ≤ x
      go x h = omega arith

  pub value : sqrt_of (fin false (suc m) e) ≡ root n s
  unfolding sqrt_of root_of
  value = ap root_of (ap (λ (y : ℕ). y / down e) (sym scaled) ∙ mul-div_cancel n (down_pos e))

  parts : T (fits binary64 (root n s)) × Below n (root n s) × Above n (root n s)
  parts = (round-fits binary64 false (halves n s) (2 ^ 601), below n s is-root big, above n s is-root big)

  rooted : Rooted (suc m) e (sqrt_of (fin false (suc m) e))
  rooted = subst (λ (r : Float). Rooted (suc m) e r) (sym value) ((rooted-iff (suc m) n e scaled (root n s)).1 parts)

  no_other : (r : Float) → Rooted (suc m) e r → r ≡ sqrt_of (fin false (suc m) e)
  no_other r h =
      let R = (rooted-iff (suc m) n e scaled r).0 h in
      let y = between n s is-root big r R.1 R.2 in
      same-value r (root n s) R.0 parts.0 (is_positive n r least most R.1 R.2) (is_positive n (root n s) least most parts.1 parts.2) y.1 y.0 ∙ sym value

-- ---- at every float
at-positive : (m : ℕ) (e : ℤ) → 0 < m → T (fits binary64 (fin false m e)) → Rooted m e (sqrt_of (fin false m e))
at-positive zero e h t = absurd (lt_irrefl 0 h)
at-positive (suc m) e h t = rooted m e t

unique : (m : ℕ) (e : ℤ) → 0 < m → T (fits binary64 (fin false m e)) → (r : Float) → Rooted m e r → r ≡ sqrt_of (fin false m e)
unique zero e h t = absurd (lt_irrefl 0 h)
unique (suc m) e h t = no_other m e t

at-negative : (m : ℕ) (e : ℤ) → 0 < m → sqrt_of (fin true m e) ≡ nan
unfolding sqrt_of
at-negative zero e h = absurd (lt_irrefl 0 h)
at-negative (suc m) e h = refl

pub is_rounded : SqrtIsRounded
unfolding sqrt_of
is_rounded = record { positive = at-positive; unique = unique; zero = λ s e. refl; infinity = refl; negative = at-negative; minus-infinity = refl; not-a-number = refl }
