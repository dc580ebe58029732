-- std's order of floats and of integers is `le` and `le_z`, so its tests are the definitions'. Assumes nothing.
use mathlib.Core.Path.{◌≡◌, refl, sym, ap, ◌∙◌}
use mathlib.Core.Bool.{Bool, true, false, ◌&&◌, ◌||◌, cond}
use Prim.Native.Nat.{ℕ}
use lib.Dec.{leb, ltb}
use lib.IntN.{ℤ, pos, negsuc}
use lib.Signed.{le_z}
use lib.Ieee.{eq, lt, le}
use Rattle.std.specs.Prelude.{Option, Some, None, IsTrue, MatchOption}
use Rattle.std.proofs.Common.{rules, Less, Equal, Greater}
use Rattle.std.specs.Ordering.{is_le, is_some_and, int_cmp, float_partial_cmp, partial_le}
use Rattle.distribution.specs.declared.NumberDistribution.{NumberDistribution}
use Rattle.std.specs.Option.{option_map_or}
use Rattle.distribution.specs.Shape.{ends}

pub floats : partial_le float_partial_cmp ≡ le
unfolding le
floats i x y = go (lt x y) (eq x y) (lt y x) i
  where
    go : (a e b : Bool) → is_some_and is_le (cond a (Some Less) (cond e (Some Equal) (cond b (Some Greater) None))) ≡ a || e
    go true e b = refl
    go false true b = refl
    go false false true = refl
    go false false false = refl

-- at most is less or neither
of_nat : (a b : ℕ) → is_le (cond (ltb a b) Less (cond (ltb b a) Greater Equal)) ≡ leb a b
of_nat a b = search rules

pub ints : partial_le (λ x y. Some (int_cmp x y)) ≡ le_z
ints i x y = at x y i
  where
    at : (x y : ℤ) → partial_le (λ x y. Some (int_cmp x y)) x y ≡ le_z x y
    at (pos a) (pos b) = of_nat a b
    at (pos a) (negsuc b) = refl
    at (negsuc a) (pos b) = refl
    at (negsuc a) (negsuc b) = of_nat b a

none_or : {A : Type 0} (test : A → Bool) (o : Option A) (r : Bool) → MatchOption o (IsTrue r) (λ x. r ≡ test x) → r ≡ option_map_or test o true
none_or test None r h = h
none_or test (Some x) r h = h

-- the test of both ends, and then of a step where there is one
module _ {A : Type 0} (o below : A → A → Bool) (e : o ≡ below) (least most first : A) (d : NumberDistribution A) (t : Bool) (tested : t ≡ ends o least most first d) (test : A → Bool) where
  shape : t && option_map_or test d.step true ≡ ends below least most first d && option_map_or test d.step true
  shape = ap (λ (b : Bool). b && option_map_or test d.step true) (tested ∙ ap (λ (o : A → A → Bool). ends o least most first d) e)

  pub shaped : (r : Bool) → t ≡ true → MatchOption d.step (IsTrue r) (λ x. r ≡ test x) → r ≡ ends below least most first d && option_map_or test d.step true
  shaped r f h = none_or test d.step r h ∙ ap (λ (b : Bool). b && option_map_or test d.step true) (sym f) ∙ shape

  pub unshaped : t ≡ false → t ≡ ends below least most first d && option_map_or test d.step true
  unshaped f = f ∙ ap (λ (b : Bool). b && option_map_or test d.step true) (sym f) ∙ shape
