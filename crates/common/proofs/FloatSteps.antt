-- How many steps a stepped float has, and that low and any of them add to a number, never a NaN. Assumes nothing.
use Rattle.std.specs.Prelude.{Some}
use mathlib.Core.Path.{◌≡◌, refl, ap, ◌∙◌}
use mathlib.Core.Logic.{◌⊎◌, inl, inr}
use Prim.Native.Nat.{ℕ, ◌+◌, ◌-◌, ◌*◌, ◌/◌, ◌^◌, ◌≤◌, zero-le}
use native.Mathlib.Nat.{le_trans, lt_of_le_of_lt, mul-pos, zero-mul, div-eq_of_lt, le_of_lt}
use native.Mathlib.Omega.{arith}
use mathlib.Core.Bool.{Bool, true, false, true≢false}
use lib.Dec.{T, leb, leb→le, nleb→lt, le→leb, lit<}
use lib.Pow.{pow_pos}
use lib.IntN.{ℤ, pos, negsuc}
use lib.Ieee.{Float, nan, inf, fin, binary64, up, down, round, add, sub, mul, div, lt, le, of_bits, of_int, to_signed, in_float}
use lib.Ieee.Back.{round_whole, positive_back}
use lib.Ieee.Exact.{HasValue}
use lib.Ieee.Fits.{down_pos}
use lib.Ieee.Positive.{den, den_pos}
use lib.Ieee.Scale.{finite}
use Rattle.arith.specs.Bounds.{real, Within, Sign}
use Rattle.arith.specs.Rounding.{floor_of}
use Rattle.arith.proofs.Tests.{either}
use Rattle.arith.proofs.Order as order
use Rattle.arith.proofs.Within.{sub_in, div-in, within-finite}
use Rattle.arith.proofs.Mono.{of_int-mono, le-cross, Rounded, rounded-mono, sub-rounded}
use Rattle.arith.proofs.Sign.{bit-of, div-sign}
use Rattle.arith.proofs.Zero.{zero_f}
use Rattle.distribution.specs.Numbers.{FloatDistribution}
use Rattle.distribution.specs.Shape.{power, float_shape}
use Rattle.distribution.proofs.Facts.{FloatStepRules, float-rules}
use Rattle.common.proofs.Clamp.{step-size, add-real, mul-real}

-- ---- the number of steps

-- the whole part of q, as the draw counts it
record Count (q : Float) : Type 0 where
  number : ℕ
  is : to_signed 63 (floor_of q) ≡ pos number
  few : number ≤ 2 ^ 53

whole-few : (n : ℕ) → T (le (round binary64 false n 1) (power (pos 52))) → n ≤ 2 ^ 53
whole-few n l = elim (either (leb n (2 ^ 53))) [
  | inl h ↦ leb→le n (2 ^ 53) h
  | inr h ↦
      let g : T (le (power (pos 53)) (round binary64 false n 1)) = unfold of_int in of_int-mono (pos (2 ^ 53)) (pos n) (le→leb (2 ^ 53) n (le_of_lt (nleb→lt n (2 ^ 53) h))) in
      absurd (unfold le in order.le_trans (power (pos 53)) (round binary64 false n 1) (power (pos 52)) g l)
]

-- -0, where low is +0 and high is -0
zero-floor : (m : ℕ) (e : ℤ) → m ≡ 0 → to_signed 63 (floor_of (fin true m e)) ≡ pos 0
unfolding floor_of
zero-floor m e z =
    let a : (m * up e + (down e - 1)) / down e ≡ 0 = div-eq_of_lt (let b : m * up e ≡ 0 = ap (λ (k : ℕ). k * up e) z ∙ zero-mul (up e) in let c = down_pos e in omega arith) in
    let b : to_signed 63 (round binary64 true 0 1) ≡ pos 0 = unfold to_signed round in refl in
    ap (λ (k : ℕ). to_signed 63 (round binary64 true k 1)) a ∙ b

count : (q : Float) → T (finite q) → Sign false q → T (le (floor_of q) (power (pos 52))) → Count q
count (fin s m e) F p l = go s (bit-of false s m e p) l
  where
    go : (s : Bool) → (s ≡ false) ⊎ (m ≡ 0) → T (le (floor_of (fin s m e)) (power (pos 52))) → Count (fin s m e)
    go true (inl i) l = absurd (true≢false i)
    go true (inr z) l = record { number = 0; is = zero-floor m e z; few = zero-le }
    go false i l =
        let n = m * up e / down e in
        let h : n ≤ 2 ^ 53 = whole-few n (unfold floor_of in l) in
        record {
          number = n;
          is = unfold floor_of of_int in (positive_back binary64 63 n (unfold in_float in le→leb n (2 ^ 53) h) (lt_of_le_of_lt h (lit< tt))).1;
          few = h;
        }
count nan F p l = elim F [ ]
count (inf _) F p l = elim F [ ]

-- ---- low + j * step

whole-finite : (j : ℕ) → j ≤ 2 ^ 53 → T (finite (of_int binary64 (pos j)))
unfolding of_int
whole-finite j h = go (round binary64 false j 1) (round_whole binary64 false j h)
  where
    go : (x : Float) → HasValue x false j 1 → T (finite x)
    go (fin s m e) v = tt
    go nan v = elim v [ ]
    go (inf _) v = elim v [ ]

-- x ≤ y gives 0 ≤ y - x
difference-sign : (x y : Float) → T (finite x) → T (finite y) → T (le x y) → Sign false (sub binary64 y x)
difference-sign x y F G h =
    rounded-mono zero (sub-rounded y x G F) (pow_pos 0) (mul-pos (den_pos y) (den_pos x)) (let k = le-cross x y F G h in omega (arith, zero-mul (den y * den x)))
  where
    zero : Rounded (of_bits binary64 0) 0 0 1
    zero = record { sign = false; size = 0; is = unfold of_bits round in refl; value = refl }

module _ (low high step : Float) (wl : Within (power (pos 52)) low) (wh : Within (power (pos 52)) high) (o : T (le low high)) (r : FloatStepRules low high step) where
  low-finite : T (finite low)
  low-finite = within-finite (power (pos 52)) low tt wl

  high-finite : T (finite high)
  high-finite = within-finite (power (pos 52)) high tt wh

  abbrev D : Float
  D = sub binary64 high low

  D-within : Within (power (pos 53)) D
  D-within = sub_in binary64 (power (pos 52)) (power (pos 52)) (power (pos 53)) high low (unfold add le in tt) wh wl

  D-finite : T (finite D)
  D-finite = within-finite (power (pos 53)) D tt D-within

  D-sign : Sign false D
  D-sign = difference-sign low high low-finite high-finite o

  step-above : T (lt zero_f step)
  step-above = order.lt-of-lt-of-le' zero_f (power (negsuc 51)) step (unfold lt of_bits in tt) r.least

  Q-finite : T (finite (div binary64 D step))
  Q-finite =
      within-finite (power (pos 105)) (div binary64 D step) tt
      (div-in binary64 (power (pos 53)) (power (negsuc 51)) (power (pos 105)) D step (unfold div le in tt) (step-size low high step r) D-within)

  steps : Count (div binary64 D step)
  steps = count (div binary64 D step) Q-finite (div-sign false D step D-finite r.finite D-sign step-above) r.count

  -- a number, never a NaN
  sum-real : (j : ℕ) → j ≤ steps.number → real (add binary64 low (mul binary64 (of_int binary64 (pos j)) step))
  sum-real j h =
      let J = of_int binary64 (pos j) in
      add-real low (mul binary64 J step) low-finite (mul-real J step (whole-finite j (le_trans h steps.few)) r.finite)

-- ---- of a distribution

pub record FloatSteps (low high step : Float) : Type 0 where
  pub number : ℕ
  pub is : to_signed 63 (floor_of (div binary64 (sub binary64 high low) step)) ≡ pos number
  pub few : number ≤ 2 ^ 53
  pub sums : (j : ℕ) → j ≤ number → real (add binary64 low (mul binary64 (of_int binary64 (pos j)) step))

pub float-steps : (d : FloatDistribution) → T (float_shape d) → (step : Float) → d.step ≡ Some step → FloatSteps d.low d.high step
float-steps d t step e =
    let r = float-rules d t in
    let n = steps d.low d.high step r.low r.high r.order (r.steps step e) in
    record { number = n.number; is = n.is; few = n.few; sums = sum-real d.low d.high step r.low r.high r.order (r.steps step e) }
