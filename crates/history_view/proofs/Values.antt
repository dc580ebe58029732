-- The value of a slot under a dimension whose distribution equals the slot's is at most 1e32 in size. Assumes nothing.
use Rattle.refusal.specs.declared.Refusal.TheVariants.{OutOfDomain}
use Rattle.std.specs.Prelude.{Ok, Err, Some}
use mathlib.Core.Path.{◌≡◌, sym, ap, ◌∙◌, subst}
use Prim.Native.Nat.{ℕ}
use mathlib.Core.Bool.{Bool, true, false, not, ◌&&◌, cond}
use mathlib.Core.List.{List}
use lib.Dec.{T, eqb→eq}
use lib.Ieee.{Float, binary64, sub, div, lt, le, fits, to_bits, of_bits}
use lib.Ieee.Bits.{of_bits-to_bits, of_bits-fits}
use Rattle.arith.specs.Bounds.{abs, Within}
use Rattle.distribution.specs.declared.Distribution.{Distribution}
use Rattle.distribution.specs.Equal.{equal_of}
use Rattle.distribution_words.specs.RoundTrip.{Held}
use Rattle.distribution.specs.Shape.{shape_of, continuous_of}
use Rattle.distribution.specs.Taken.{taken_of, value_of}
use Rattle.distribution.proofs.Equals.{equal-taken}
use Rattle.distribution.proofs.Facts.{parts}
use Rattle.encoding.specs.Bounds.{InternalBounds, ends_of, bounds_of}
use Rattle.encoding.proofs.EndLaws.{FloatsFit, bounds}
use Rattle.common.proofs.Facts.{ValueFits, encode-accepted, apart, largest, normalised}
use Rattle.scaling.specs.Scaling.{to_normalized_of}
use Rattle.dimensions.specs.declared.DimensionInfo.{DimensionInfo}
use Rattle.dimensions.specs.Dimensions.{same_bits, bounds_are, dimension_ok}
use Rattle.slots.specs.Slot.{taken_word, slot_read}
use Rattle.history.specs.Training.{entry_of}

-- ---- the dimension

-- floats of the format with one bit pattern are one float
pub same_bits_lem : (a b : Float) → T (fits binary64 a) → T (fits binary64 b) → T (same_bits a b) → a ≡ b
same_bits_lem a b p q t = sym (of_bits-to_bits binary64 a p) ∙ ap (of_bits binary64) (eqb→eq (to_bits binary64 a) (to_bits binary64 b) t) ∙ of_bits-to_bits binary64 b q

pub floats-fit : (d : Distribution) → Held d → FloatsFit d
floats-fit (Distribution.Float d) h = record { low = h.0; high = h.1 }
floats-fit (Distribution.Int d) h = tt
floats-fit (Distribution.Categorical d) h = tt

-- a malformed distribution has no bounds
pub bounds-shape : (d : Distribution) (lo hi : Float) → T (bounds_are (bounds_of d) lo hi) → T (shape_of d)
unfolding bounds_of
bounds-shape d lo hi t = go (shape_of d) t
  where
    go : (b : Bool) → T (bounds_are (cond b (ends_of d) (Err OutOfDomain)) lo hi) → T b
    go true t = tt
    go false t = t

-- a dimension that is a column of the model: continuous, with its distribution's bounds
pub record Column (d : DimensionInfo) : Type 0 where
  pub ok : T (dimension_ok d)
  pub continuous : T (continuous_of d.distribution)
  pub held : Held d.distribution
  pub lo-fits : T (fits binary64 d.lo)
  pub hi-fits : T (fits binary64 d.hi)

pub shape : (d : DimensionInfo) → Column d → T (shape_of d.distribution)
unfolding dimension_ok
shape d r = bounds-shape d.distribution d.lo d.hi r.ok

pub ends : (d : DimensionInfo) → Column d → bounds_of d.distribution ≡ Ok (Some (d.lo, d.hi))
unfolding dimension_ok
ends d r =
    let b = bounds d.distribution r.continuous (floats-fit d.distribution r.held) (shape d r) in
    let t : T (same_bits b.lo d.lo && same_bits b.hi d.hi) = subst (λ (i : InternalBounds). T (bounds_are i d.lo d.hi)) b.is r.ok in
    let p = same_bits_lem b.lo d.lo b.rules.low_fits r.lo-fits (search parts) in
    let q = same_bits_lem b.hi d.hi b.rules.high_fits r.hi-fits (search parts) in
    cc b.is

-- ---- the value

value-fits : (d : Distribution) (w : ℕ) → ValueFits (value_of d w)
unfolding value_of
value-fits (Distribution.Float d) w = of_bits-fits binary64 w
value-fits (Distribution.Int d) w = tt
value-fits (Distribution.Categorical d) w = tt

-- 0.5
half : Within largest (of_bits binary64 0x3fe0000000000000)
unfolding of_bits le
half = tt

scaled-within : (x lo hi : Float) → (T (not (lt (abs (sub binary64 hi lo)) apart)) → Within largest (div binary64 (sub binary64 x lo) (sub binary64 hi lo))) → Within largest (to_normalized_of x lo hi)
unfolding to_normalized_of
scaled-within x lo hi f = go (lt (abs (sub binary64 hi lo)) apart) f
  where
    go : (b : Bool) → (T (not b) → Within largest (div binary64 (sub binary64 x lo) (sub binary64 hi lo))) → Within largest (cond b (of_bits binary64 0x3fe0000000000000) (div binary64 (sub binary64 x lo) (sub binary64 hi lo)))
    go true f = half
    go false f = f tt

pub entry-within : (d : DimensionInfo) → Column d → (v : List ℕ) (e : Distribution) → slot_read v ≡ Some e → T (taken_of e (value_of e (taken_word v))) → T (equal_of d.distribution e)
    → Within largest (entry_of d v)
unfolding entry_of
entry-within d r v e p t q =
    let w = value_of e (taken_word v) in
    let k = subst T (sym (equal-taken d.distribution e q w)) t in
    let f = value-fits e (taken_word v) in
    let x = encode-accepted d.distribution w r.continuous f (shape d r) k in
    rw (p, x.is) (scaled-within x.value d.lo d.hi (normalised d.distribution w (floats-fit d.distribution r.held) f (shape d r) k x.value d.lo d.hi x.is (ends d r)))
