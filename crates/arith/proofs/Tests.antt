-- From the outcome of a test in the code to the fact, and both cases of a test. Assumes nothing.
use Rattle.std.proofs.Common.{◌≡◌, ℕ, Bool, true, false, cond, not, ◌&&◌, ◌||◌, T, eqb, ◌⊎◌, sym, refl, subst, inl, inr, eqb→eq, T_not}
use mathlib.Core.Bool.{and-eq-true_iff}
use lib.Dec.{not_T}
use lib.Ieee.Bits as bits
use lib.Ieee.Fits.{eq→eqb}

pub taken : {b : Bool} → b ≡ true → T b
taken e = subst T (sym e) tt

pub untaken : {b : Bool} → b ≡ false → T (not b)
untaken e = subst (λ (x : Bool). T (not x)) (sym e) tt

pub is_false : (b : Bool) → (T b → ⊥) → b ≡ false
is_false b h = bits.is_false b (not_T b h)

pub either : (b : Bool) → T b ⊎ T (not b)
either true = inl tt
either false = inr tt

pub equal_or_not : (a b : ℕ) → (a ≡ b) ⊎ (a ≡ b → ⊥)
equal_or_not a b = elim (either (eqb a b)) [
  | inl t ↦ inl (eqb→eq a b t)
  | inr t ↦ inr (λ e. T_not (eqb a b) t (eq→eqb e))
]

pub or_split : (a b : Bool) → T (a || b) → T a ⊎ T b
or_split true b t = inl tt
or_split false b t = inr t

pub or_left : (a b : Bool) → T a → T (a || b)
or_left true b t = tt
or_left false b t = absurd t

pub or_right : (a b : Bool) → T b → T (a || b)
or_right true b t = tt
or_right false b t = t

pub iff : (x y : Bool) → (T x → T y) → (T y → T x) → x ≡ y
iff true true f g = refl
iff true false f g = absurd (f tt)
iff false true f g = absurd (g tt)
iff false false f g = refl

-- both tests of a conjunction hold
pub both : (a b : Bool) → (a && b) ≡ true → (a ≡ true) × (b ≡ true)
both a b h = (and-eq-true_iff a b).0 h

-- what holds of both answers of a test holds of the one that it picks
pub by-test : {A : Type 0} (P : A → Type 0) (b : Bool) (x y : A) → (b ≡ true → P x) → (b ≡ false → P y) → P (cond b x y)
by-test P true x y f g = f refl
by-test P false x y f g = g refl
