-- The ends of a well-formed float or int in the model's space: finite, in order, and at most 2 ^ 52 in size, on log scale 36.05. By the laws of ln. A choice has none.
use Rattle.refusal.specs.declared.Refusal.TheVariants.{OutOfDomain}
use Rattle.std.specs.Prelude.{Ok, Err, Some, None}
use mathlib.Core.Path.{◌≡◌, refl, sym, ap, ◌∙◌, subst}
use Prim.Native.Nat.{ℕ, suc, ◌-◌, ◌^◌}
use native.Mathlib.Omega.{arith}
use mathlib.Core.Bool.{Bool, true, false, cond}
use lib.Dec.{T}
use lib.IntN.{ℤ, pos, negsuc}
use lib.Signed.{le_z}
use lib.Ieee.{Float, nan, binary64, add, mul, lt, le, neg, fits, of_bits, of_int}
use lib.Ieee.Bits.{is_true}
use lib.Ieee.Fits.{of_int-fits, add-fits, cond-fits}
use Rattle.arith.specs.Bounds.{Within, Between}
use Rattle.logarithm.specs.Ln.{ln_of, normal, mantissa_of, exponent_of, halved_of, series_of}
use Rattle.arith.specs.Outcome.{pick}
use Rattle.arith.proofs.Order as order
use Rattle.arith.proofs.Within.{widen, within, upper}
use Rattle.arith.proofs.Mono.{of_int-mono}
use Rattle.logarithm.proofs.LnLaws.{Accepted, ln-end}
use Rattle.logarithm.proofs.LnMono.{ln-mono}
use Rattle.distribution.specs.Numbers.{FloatDistribution, IntDistribution}
use Rattle.distribution.specs.declared.CategoricalDistribution.{CategoricalDistribution}
use Rattle.distribution.specs.declared.Distribution.{Distribution}
use Rattle.distribution.specs.Shape.{power, shape_of, float_shape, int_shape, continuous_of}
use Rattle.distribution.proofs.Whole.{le_z-trans}
use Rattle.distribution.proofs.Facts.{Bounded, float-rules, int-rules}
use Rattle.encoding.specs.Bounds.{InternalBounds, pair_of, scale_of, ends_of, bounds_of}

-- ---- what a distribution has

-- the binary64 format holds a float distribution's low and high
pub record FloatFits (d : FloatDistribution) : Type 0 where
  pub low : T (fits binary64 d.low)
  pub high : T (fits binary64 d.high)

abbrev pub FloatsFit : Distribution → Type 0
FloatsFit (Distribution.Float d) = FloatFits d
FloatsFit (Distribution.Int d) = Unit
FloatsFit (Distribution.Categorical d) = Unit

abbrev pub on_log_scale : Distribution → Bool
on_log_scale (Distribution.Float d) = d.log_scale
on_log_scale (Distribution.Int d) = d.log_scale
on_log_scale (Distribution.Categorical d) = false

-- ---- what its ends keep

-- the largest end: 36.05 on log scale, else 2 ^ 52
abbrev pub limit : Bool → Float
limit log = cond log (of_bits binary64 0x4042066666666666) (power (pos 52))

pub record EndRules (log : Bool) (lo hi : Float) : Type 0 where
  pub low : Within (limit log) lo
  pub high : Within (limit log) hi
  pub order : T (le lo hi)
  pub low_fits : T (fits binary64 lo)
  pub high_fits : T (fits binary64 hi)

pub record HasEnds (log : Bool) (b : InternalBounds) : Type 0 where
  pub lo : Float
  pub hi : Float
  pub is : b ≡ Ok (Some (lo, hi))
  pub rules : EndRules log lo hi

-- ---- a value from 2 ^ -(k + 1) to 2 ^ (k + 1), or its logarithm

pub record Scalable (k : ℕ) (log : Bool) (x : Float) : Type 0 where
  pub fit : T (fits binary64 x)
  pub size : Within (power (pos (suc k))) x
  pub least : T log → T (le (power (negsuc k)) x)

-- on log scale at most m in size
pub record Scaled (m b : Float) (log : Bool) (x : Float) : Type 0 where
  pub value : Float
  pub is : scale_of log x ≡ Ok value
  pub size : Within (cond log m b) value
  pub fit : T (fits binary64 value)

never : ◌≡◌ {A = ℕ} 0 1 → ⊥
never z = omega arith

-- a logarithm is a sum, so the format holds it
series-fits : (m e : Float) → T (fits binary64 (series_of m e))
unfolding series_of
series-fits m e = add-fits binary64 _ _

halved-fits : (m e : Float) → T (fits binary64 (halved_of m e))
unfolding halved_of
halved-fits m e =
    let m' = mul binary64 m (of_bits binary64 0x3fe0000000000000) in
    let e' = add binary64 e (of_int binary64 (pos 1)) in
    cond-fits binary64 (lt (of_bits binary64 0x3ff6a09e667f3bcd) m) (series_of m' e') (series_of m e) (series-fits m' e') (series-fits m e)

ln-fits : (x v : Float) → ln_of x ≡ Ok v → T (fits binary64 v)
ln-fits x v e = go (normal x) (unfold ln_of in e)
  where
    go : (b : Bool) → pick b (Ok (halved_of (mantissa_of x) (of_int binary64 (exponent_of x)))) (Err OutOfDomain) ≡ Ok v → T (fits binary64 v)
    go true e = let q : halved_of (mantissa_of x) (of_int binary64 (exponent_of x)) ≡ v = cc in subst (λ (y : Float). T (fits binary64 y)) q (halved-fits (mantissa_of x) (of_int binary64 (exponent_of x)))
    go false e = let z : ◌≡◌ {A = ℕ} 0 1 = cc in absurd (never z)

pub scaled : (k : ℕ) (m : Float) → ((x : Float) → T (fits binary64 x) → Between (power (negsuc k)) (power (pos (suc k))) x → Accepted m x) → (log : Bool) (x : Float) → Scalable k log x → Scaled m (power (pos (suc k))) log x
scaled k m ln true x s = let r = ln x s.fit (s.least tt, upper (power (pos (suc k))) x s.size) in record { value = r.0; is = r.1; size = r.2; fit = ln-fits x r.0 r.1 }
scaled k m ln false x s = record { value = x; is = refl; size = s.size; fit = s.fit }

-- an end may be any taken value
pub looser : {log : Bool} {x : Float} → Scalable 51 log x → Scalable 52 log x
unfolding le
looser {log} {x} s = record {
  fit = s.fit;
  size = widen (power (pos 52)) (power (pos 53)) x tt s.size;
  least = λ l. order.le_trans (power (negsuc 52)) (power (negsuc 51)) x tt (s.least l);
}

-- ---- both ends

ordered : (log : Bool) (x y : Float) → Scalable 52 log x → Scalable 52 log y → T (le x y) → (v w : Float) → scale_of log x ≡ Ok v → scale_of log y ≡ Ok w → T (le v w)
ordered true x y s t h v w p q = ln-mono x y s.fit t.fit (s.least tt, upper (power (pos 53)) x s.size) (t.least tt, upper (power (pos 53)) y t.size) h v w p q
ordered false x y s t h v w p q =
    let a : x ≡ v = cc in
    let b : y ≡ w = cc in
    subst (λ (z : Float). T (le v z)) b (subst (λ (z : Float). T (le z y)) a h)

ends : (log : Bool) (x y : Float) → Scalable 51 log x → Scalable 51 log y → T (le x y) → HasEnds log (pair_of (scale_of log x) (scale_of log y))
ends log x y s t h =
    let a = scaled 51 (limit true) ln-end log x s in
    let b = scaled 51 (limit true) ln-end log y t in
    record {
      lo = a.value;
      hi = b.value;
      is = rw (a.is, b.is) refl;
      rules = record { low = a.size; high = b.size; order = ordered log x y (looser s) (looser t) h a.value b.value a.is b.is; low_fits = a.fit; high_fits = b.fit };
    }

-- ---- a whole number as an end

pub whole-within : (z : ℤ) → Bounded (2 ^ 52) z → Within (power (pos 52)) (of_int binary64 z)
whole-within z r =
    within (power (pos 52)) (of_int binary64 z) (unfold of_int in of_int-mono z (pos (2 ^ 52)) r.most) (unfold of_int neg in of_int-mono (negsuc (2 ^ 52 - 1)) z r.least)

pub whole-scalable : (log : Bool) (z : ℤ) → Bounded (2 ^ 52) z → (T log → T (le_z (pos 1) z)) → Scalable 51 log (of_int binary64 z)
whole-scalable log z r l = record {
  fit = of_int-fits binary64 z;
  size = whole-within z r;
  least = λ t. order.le_trans (power (negsuc 51)) (of_int binary64 (pos 1)) (of_int binary64 z) (unfold of_int le in tt) (of_int-mono (pos 1) z (l t));
}

-- ---- the distributions

pub well-formed : (d : Distribution) → T (shape_of d) → bounds_of d ≡ ends_of d
unfolding bounds_of
well-formed d t = rw (is_true (shape_of d) t)

float-scalable : (d : FloatDistribution) → FloatFits d → T (float_shape d) → Scalable 51 d.log_scale d.low × Scalable 51 d.log_scale d.high
float-scalable d f t =
    let r = float-rules d t in (
      record { fit = f.low; size = r.low; least = r.log },
      record { fit = f.high; size = r.high; least = λ l. order.le_trans (power (negsuc 51)) d.low d.high (r.log l) r.order },
    )

int-scalable : (d : IntDistribution) → T (int_shape d) → Scalable 51 d.log_scale (of_int binary64 d.low) × Scalable 51 d.log_scale (of_int binary64 d.high)
int-scalable d t =
    let r = int-rules d t in (
      whole-scalable d.log_scale d.low r.low r.log,
      whole-scalable d.log_scale d.high r.high (λ l. le_z-trans (pos 1) d.low d.high (r.log l) r.order),
    )

pub bounds : (d : Distribution) → T (continuous_of d) → FloatsFit d → T (shape_of d) → HasEnds (on_log_scale d) (bounds_of d)
unfolding ends_of shape_of
bounds (Distribution.Float d) c f t =
    let s = float-scalable d f t in
    subst (HasEnds d.log_scale) (sym (well-formed (Distribution.Float d) t)) (ends d.log_scale d.low d.high s.0 s.1 (float-rules d t).order)
bounds (Distribution.Int d) c f t =
    let s = int-scalable d t in
    subst (HasEnds d.log_scale) (sym (well-formed (Distribution.Int d) t))
    (ends d.log_scale (of_int binary64 d.low) (of_int binary64 d.high) s.0 s.1 (of_int-mono d.low d.high (int-rules d t).order))
bounds (Distribution.Categorical d) c f t = absurd c

pub choice-bounds : (d : CategoricalDistribution) → T (shape_of (Distribution.Categorical d)) → bounds_of (Distribution.Categorical d) ≡ (Ok None)
unfolding ends_of
choice-bounds d t = well-formed (Distribution.Categorical d) t

-- the two ends, of bounds that have them
abbrev low_end : InternalBounds → Float
low_end (Ok (Some e)) = e.0
low_end (Ok None) = nan
low_end (Err r) = nan

abbrev high_end : InternalBounds → Float
high_end (Ok (Some e)) = e.1
high_end (Ok None) = nan
high_end (Err r) = nan

-- the same of ends that are given
pub has-ends : (d : Distribution) → T (shape_of d) → (lo hi : Float) → bounds_of d ≡ Ok (Some (lo, hi)) → T (continuous_of d)
has-ends (Distribution.Float d) t lo hi e = tt
has-ends (Distribution.Int d) t lo hi e = tt
has-ends (Distribution.Categorical d) t lo hi e = let a = choice-bounds d t in let z : ◌≡◌ {A = ℕ} 0 1 = cc in absurd (never z)

pub end-rules : (d : Distribution) → FloatsFit d → T (shape_of d) → (lo hi : Float) → bounds_of d ≡ Ok (Some (lo, hi)) → EndRules (on_log_scale d) lo hi
end-rules d f t lo hi e =
    let r = bounds d (has-ends d t lo hi e) f t in
    let a : r.lo ≡ lo = ap low_end (sym r.is ∙ e) in
    let b : r.hi ≡ hi = ap high_end (sym r.is ∙ e) in
    subst (λ (x : Float). EndRules (on_log_scale d) x hi) a (subst (λ (x : Float). EndRules (on_log_scale d) r.lo x) b r.rules)
