-- A number held to ends in order lies between them. The grid of a float gives a number, never a NaN: its count of steps is finite. Assumes nothing.
use mathlib.Core.Logic.{inl, inr}
use Prim.Native.Nat.{ℕ, ◌<◌, ◌*◌}
use native.Mathlib.Nat.{le_refl, mul-pos}
use mathlib.Core.Bool.{Bool, false, ◌&&◌}
use lib.Dec.{T, lit<}
use lib.IntN.{ℤ, pos, negsuc}
use lib.Signed.{le_z, lt_z, lt_z_no}
use lib.Ieee.{Float, nan, inf, fin, binary64, up, down, unlike, round, add, sub, mul, div, lt, le, is_nan}
use lib.Ieee.Bits.{is_true, is_false}
use lib.Ieee.Fits.{down_pos, and_i}
use lib.Ieee.Order.{round_mono}
use lib.Ieee.Positive.{den_pos}
use lib.Ieee.Scale.{finite}
use Rattle.arith.specs.Bounds.{real, abs, Within, Between}
use Rattle.arith.specs.Rounding.{round_of}
use Rattle.arith.proofs.Tests.{either}
use Rattle.arith.proofs.Order as order
use Rattle.arith.proofs.Within.{abs-round, abs-real, sub_in, div-in, within-finite, upper, le-abs}
use Rattle.arith.proofs.Mono.{add-rounded}
use Rattle.distribution.specs.Numbers.{FloatDistribution}
use Rattle.distribution.specs.Shape.{power, float_shape}
use Rattle.distribution.proofs.Facts.{FloatRules, FloatStepRules, float-rules, by-step}
use Rattle.distribution.proofs.Whole.{le_z-refl}
use Rattle.common.specs.Grid.{raised_to, clamp_of, float_grid}
use Rattle.common.proofs.Domain.{round-within}

-- ---- the clamps

raised : (low v : Float) → real low → real v → T (le low (raised_to lt low v))
raised low v p q = elim (either (lt v low)) [
  | inl h ↦ rw (is_true (lt v low) h) (order.reflexive low p)
  | inr h ↦ rw (is_false (lt v low) h) (order.le_of_not_lt v low q p h)
]

pub clamp-between : (low high v : Float) → real v → T (le low high) → Between low high (clamp_of lt low high v)
clamp-between low high v q h =
    let p = order.le-real low high h in
    let r = raised_to lt low v in
    let l = raised low v p.0 q in
    elim (either (lt high r)) [
      | inl g ↦ rw (is_true (lt high r) g) (h, order.reflexive high p.1)
      | inr g ↦ rw (is_false (lt high r) g) (l, order.le_of_not_lt high r p.1 (order.le-real low r l).1 g)
    ]

pub clamp-whole : (low high z : ℤ) → T (le_z low high) → T (le_z low (clamp_of lt_z low high z)) × T (le_z (clamp_of lt_z low high z) high)
clamp-whole low high z h =
    let r = raised_to lt_z low z in
    let l : T (le_z low r) = elim (either (lt_z z low)) [ inl g ↦ rw (is_true (lt_z z low) g) (le_z-refl low) | inr g ↦ rw (is_false (lt_z z low) g) (lt_z_no {a = z} {b = low} g).le ] in
    elim (either (lt_z high r)) [
      | inl g ↦ rw (is_true (lt_z high r) g) (h, le_z-refl high)
      | inr g ↦ rw (is_false (lt_z high r) g) (l, (lt_z_no {a = high} {b = r} g).le)
    ]

-- ---- the grid of a float

round-real : (s : Bool) (n d : ℕ) → 0 < d → real (round binary64 s n d)
round-real s n d D = abs-real (round binary64 s n d) (rw (abs-round binary64 s n d) (order.le-real (round binary64 false n d) (round binary64 false n d) (round_mono binary64 n d n d D D (le_refl (n * d)))).0)

pub mul-real : (x y : Float) → T (finite x) → T (finite y) → real (mul binary64 x y)
unfolding mul
mul-real (fin s m e) (fin t n d) F G = round-real (unlike s t) (m * up e * (n * up d)) (down e * down d) (mul-pos (down_pos e) (down_pos d))
mul-real nan y F G = elim F [ ]
mul-real (inf _) y F G = elim F [ ]
mul-real (fin s m e) nan F G = elim G [ ]
mul-real (fin s m e) (inf _) F G = elim G [ ]

pub add-real : (x y : Float) → T (finite x) → real y → real (add binary64 x y)
unfolding is_nan
add-real x nan F p = absurd p
add-real (fin s m e) (inf t) F p = unfold add in tt
add-real x (fin t n d) F p = let r = add-rounded x (fin t n d) F tt in rw r.is (unfold is_nan in round-real r.sign r.size _ (mul-pos (den_pos x) (down_pos d)))
add-real nan (inf t) F p = elim F [ ]
add-real (inf _) (inf t) F p = elim F [ ]

-- a step as a divisor
pub step-size : (low high step : Float) → FloatStepRules low high step → T (finite step && le (power (negsuc 51)) (abs step))
step-size low high step r =
    and_i (finite step) (le (power (negsuc 51)) (abs step)) r.finite (order.le_trans (power (negsuc 51)) step (abs step) r.least (le-abs step (order.le-real (power (negsuc 51)) step r.least).1).0)

pub float-grid-real : (d : FloatDistribution) (v : Float) → T (float_shape d) → Within (power (pos 57)) v → real (float_grid d v)
unfolding float_grid
float-grid-real d v t w = by-step real _ d.step v (λ step e. stepped step (r.steps step e)) (λ _. (order.le-real v (power (pos 57)) (upper (power (pos 57)) v w)).0)
  where
    r : FloatRules d
    r = float-rules d t

    stepped : (step : Float) → FloatStepRules d.low d.high step → real (add binary64 d.low (mul binary64 (round_of (div binary64 (sub binary64 v d.low) step)) step))
    stepped step g =
        let x = sub binary64 v d.low in
        let q = div binary64 x step in
        let a : Within (power (pos 58)) x = sub_in binary64 (power (pos 57)) (power (pos 52)) (power (pos 58)) v d.low (unfold add le in tt) w r.low in
        let b : Within (power (pos 110)) q = div-in binary64 (power (pos 58)) (power (negsuc 51)) (power (pos 110)) x step (unfold div le in tt) (step-size d.low d.high step g) a in
        add-real d.low (mul binary64 (round_of q) step) (within-finite (power (pos 52)) d.low tt r.low) (mul-real (round_of q) step (within-finite (power (pos 110)) (round_of q) tt (round-within 110 (lit< tt) q b)) g.finite)
