-- `equal_of` is the derived `==`, so symmetric and transitive, and reflexive where the distribution is well-formed. Equal distributions take the same values. Assumes nothing.
use Rattle.std.specs.Prelude.{Option, Some, None}
use Rattle.std.specs.Option.{option_eq}
use Rattle.std.specs.Ordering.{int_eq}
use Rattle.std.proofs.Common.{rules}
use Rattle.std.proofs.lemmas.Cmp.{int_eq_equiv}
use Rattle.std.proofs.lemmas.Float.{floats_per}
use mathlib.Core.Path.{◌≡◌, refl, sym, ap, subst, ◌∙◌}
use mathlib.Core.Bool.{Bool, true, false, beq}
use mathlib.Core.Logic.{inl, inr}
use lib.Dec.{T, ltb, eqb→eq, eqb_refl}
use lib.IntN.{negsuc}
use lib.Ieee.{Float, eq, lt, le}
use lib.Ieee.Bits.{is_true}
use lib.Ieee.Fits.{and_i}
use Rattle.arith.specs.Bounds.{real}
use Rattle.arith.proofs.Order as order
use Rattle.arith.proofs.Tests.{or_split, or_right}
use Rattle.distribution.specs.contracts.DistributionPartialEq.TheImpl as derived
use Rattle.distribution.specs.contracts.DistributionPartialEq.TheImpl.Laws.{laws-law}
use Rattle.distribution.specs.declared.Distribution.{Distribution}
use Rattle.distribution.specs.declared.ParamValue.{ParamValue}
use Rattle.distribution.specs.Shape.{power, shape_of}
use Rattle.distribution.specs.Equal.{equal_of}
use Rattle.distribution.specs.Taken.{taken_of, float_taken, int_taken}
use Rattle.distribution.proofs.Facts.{parts, float-rules}

pub same : (a b : Distribution) → (derived.ghosts).eq a b ≡ equal_of a b
unfolding equal_of
same (Distribution.Float a) (Distribution.Float b) = search rules
same (Distribution.Float a) (Distribution.Int b) = refl
same (Distribution.Float a) (Distribution.Categorical b) = refl
same (Distribution.Int a) (Distribution.Float b) = refl
same (Distribution.Int a) (Distribution.Int b) = search rules
same (Distribution.Int a) (Distribution.Categorical b) = refl
same (Distribution.Categorical a) (Distribution.Float b) = refl
same (Distribution.Categorical a) (Distribution.Int b) = refl
same (Distribution.Categorical a) (Distribution.Categorical b) = refl

pub equal-sym : (a b : Distribution) → T (equal_of a b) → T (equal_of b a)
equal-sym a b t = subst T (sym (same a b) ∙ laws-law.symm a b ∙ same b a) t

pub equal-trans : (a b c : Distribution) → T (equal_of a b) → T (equal_of b c) → T (equal_of a c)
equal-trans a b c t u =
    let e = laws-law.trans a b c (same a b ∙ is_true (equal_of a b) t) (same b c ∙ is_true (equal_of b c) u) in
    subst T (sym e ∙ same a c) tt

-- ---- reflexive: a well-formed distribution's numbers are no NaN

pub eq-sym : (x y : Float) → T (eq x y) → T (eq y x)
eq-sym x y h = subst T (floats_per.symm x y) h

-- equal is at most and at least
pub eq-le : (x y : Float) → T (eq x y) → T (le x y)
unfolding le
eq-le x y h = or_right (lt x y) (eq x y) h

pub le-eq : (x y : Float) → T (le x y) → T (le y x) → T (eq x y)
unfolding le
le-eq x y h k = elim (or_split (lt x y) (eq x y) h) [ inl l ↦ absurd (order.lt_not_le x y l k) | inr e ↦ e ]

eq_self : (x : Float) → real x → T (eq x x)
eq_self x p = le-eq x x (order.reflexive x p) (order.reflexive x p)

beq_self : (b : Bool) → T (beq b b)
beq_self true = tt
beq_self false = tt

step_self : {A : Type 0} (e : A → A → Bool) (o : Option A) → ((step : A) → o ≡ Some step → T (e step step)) → T (option_eq e o o)
step_self e None h = tt
step_self e (Some step) h = h step refl

pub equal-self : (d : Distribution) → T (shape_of d) → T (equal_of d d)
unfolding shape_of equal_of
equal-self (Distribution.Float d) t =
    let r = float-rules d t in
    let low = eq_self d.low (order.le-real d.low d.high r.order).0 in
    let high = eq_self d.high (order.le-real d.low d.high r.order).1 in
    let log = beq_self d.log_scale in
    let step = step_self eq d.step (λ step e. eq_self step (order.le-real (power (negsuc 51)) step (r.steps step e).least).1) in
    search and_i
equal-self (Distribution.Int d) t =
    let low : T (int_eq d.low d.low) = subst T (sym (int_eq_equiv.refl d.low)) tt in
    let high : T (int_eq d.high d.high) = subst T (sym (int_eq_equiv.refl d.high)) tt in
    let log = beq_self d.log_scale in
    let step = step_self int_eq d.step (λ step e. subst T (sym (int_eq_equiv.refl step)) tt) in
    search and_i
equal-self (Distribution.Categorical d) t = eqb_refl d.n_choices

-- ---- the Taken rule looks only at what equal distributions share

pub beq-is : (a b : Bool) → T (beq a b) → a ≡ b
beq-is true true h = refl
beq-is true false h = absurd h
beq-is false true h = absurd h
beq-is false false h = refl

pub equal-taken : (a b : Distribution) → T (equal_of a b) → (v : ParamValue) → taken_of a v ≡ taken_of b v
unfolding equal_of taken_of
equal-taken (Distribution.Float a) (Distribution.Float b) t (ParamValue.Float x) = ap (λ (l : Bool). float_taken l x) (beq-is a.log_scale b.log_scale (search parts))
equal-taken (Distribution.Float a) (Distribution.Float b) t (ParamValue.Int x) = refl
equal-taken (Distribution.Float a) (Distribution.Float b) t (ParamValue.Categorical x) = refl
equal-taken (Distribution.Float a) (Distribution.Int b) t v = absurd t
equal-taken (Distribution.Float a) (Distribution.Categorical b) t v = absurd t
equal-taken (Distribution.Int a) (Distribution.Float b) t v = absurd t
equal-taken (Distribution.Int a) (Distribution.Int b) t (ParamValue.Float x) = refl
equal-taken (Distribution.Int a) (Distribution.Int b) t (ParamValue.Int x) = ap (λ (l : Bool). int_taken l x) (beq-is a.log_scale b.log_scale (search parts))
equal-taken (Distribution.Int a) (Distribution.Int b) t (ParamValue.Categorical x) = refl
equal-taken (Distribution.Int a) (Distribution.Categorical b) t v = absurd t
equal-taken (Distribution.Categorical a) (Distribution.Float b) t v = absurd t
equal-taken (Distribution.Categorical a) (Distribution.Int b) t v = absurd t
equal-taken (Distribution.Categorical a) (Distribution.Categorical b) t (ParamValue.Float x) = refl
equal-taken (Distribution.Categorical a) (Distribution.Categorical b) t (ParamValue.Int x) = refl
equal-taken (Distribution.Categorical a) (Distribution.Categorical b) t (ParamValue.Categorical x) = ap (ltb x) (eqb→eq a.n_choices b.n_choices t)
