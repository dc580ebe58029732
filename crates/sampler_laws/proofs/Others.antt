-- No draw and no decoding is refused with 9: where a value is out of a function's domain, it is 11. Assumes nothing.
use Prim.Native.Nat.{ℕ, zero, suc}
use mathlib.Core.Path.{◌≡◌}
use mathlib.Core.Bool.{Bool, true, false}
use mathlib.Core.List.{List}
use native.Mathlib.Omega.{arith}
use lib.Dec.{eqb}
use lib.IntN.{ℤ, pos, negsuc}
use lib.Ieee.{Float, binary64, is_nan, lt, of_int}
use Rattle.std.specs.Prelude.{Option, Some, None, Result, Ok, Err}
use Rattle.refusal.specs.declared.Refusal.{Refusal}
use Rattle.refusal.specs.declared.Refusal.TheVariants.{OutOfDomain}
use Rattle.refusal.specs.Numbers.{number_of}
use Rattle.arith.specs.Outcome.{made, and_then, pick}
use Rattle.arith.proofs.Tests.{by-test}
use Rattle.exponential.specs.Exp.{exp_of}
use Rattle.logarithm.specs.Ln.{normal, ln_of}
use Rattle.rng_util.specs.declared.Draw.{Draw}
use Rattle.rng_util.specs.Draws.{read_by, word_draw_of, unit_draw_of, whole_draw_of, range_ok}
use Rattle.distribution.proofs.Facts.{by-step}
use Rattle.distribution.specs.declared.Distribution.{Distribution}
use Rattle.distribution.specs.Shape.{shape_of, continuous_of}
use Rattle.encoding.specs.Bounds.{InternalBounds, pair_of, scale_of, ends_of, bounds_of}
use Rattle.common.specs.Decode.{inside, unscale_of, decoded_of, from_internal_of}
use Rattle.common.specs.Random.{drawing, log_range, log_float_random, stepped_float_random, linear_float_random, unclamped_random, float_random, log_int_random, stepped_int_random, linear_int_random, int_random, categorical_random, random_of, sample_random_of}
use Rattle.dimensions.specs.declared.DimensionInfo.{DimensionInfo}
use Rattle.dimensions.specs.Dimensions.{dimension_at, columns_of}
use lib.ListN.{length}
use Rattle.proposal.specs.Values.{coordinate_of, step_of, walk_more, step_at, walk_of, walked_of}

pub record Other {A : Type 0} (r : Result A Refusal) : Type 0 where
  pub no : number_of r ≡ 9 → ⊥

-- an accepted answer, and one out of a domain
pub fine : {A : Type 0} (x : A) → Other (Ok x)
fine x = record { no = λ e. omega arith }

pub domain : (A : Type 0) → Other {A = A} (Err OutOfDomain)
domain A = record { no = λ e. omega arith }

pub made-other : {A B : Type 0} (f : A → B) (r : Result A Refusal) → Other r → Other (made f r)
made-other f (Ok x) o = fine (f x)
made-other f (Err c) o = record { no = o.no }

pub then-other : {A B : Type 0} (r : Result A Refusal) (f : A → Result B Refusal) → Other r → ((x : A) → Other (f x)) → Other (and_then r f)
then-other (Ok x) f o g = g x
then-other (Err c) f o g = record { no = o.no }

read-other : {A B : Type 0} (f : A → B) (r : Result (Draw A) Refusal) → Other r → Other (read_by f r)
read-other f (Ok x) o = fine _
read-other f (Err c) o = record { no = o.no }

pick-other : (b : Bool) (x y : Result Float Refusal) → Other x → Other y → Other (pick b x y)
pick-other true x y o p = o
pick-other false x y o p = p

-- ---- the exponential, the logarithm and the ends

exp-other : (x : Float) → Other (exp_of x)
unfolding exp_of
exp-other x =
    pick-other (is_nan x) _ _ (fine _)
    (pick-other (lt x (of_int binary64 (negsuc 707))) _ _ (fine _) (pick-other (lt (of_int binary64 (pos 709)) x) _ _ (domain _) (fine _)))

scale-other : (log : Bool) (x : Float) → Other (scale_of log x)
unfolding ln_of
scale-other log x = pick-other log _ _ (pick-other (normal x) _ _ (fine _) (domain _)) (fine _)

pair-other : (a b : Result Float Refusal) → Other a → Other b → Other (pair_of a b)
pair-other (Ok x) (Ok y) o p = fine _
pair-other (Ok x) (Err c) o p = record { no = p.no }
pair-other (Err c) b o p = record { no = o.no }

ends-other : (d : Distribution) → Other (ends_of d)
unfolding ends_of
ends-other (Distribution.Float d) = pair-other _ _ (scale-other d.log_scale _) (scale-other d.log_scale _)
ends-other (Distribution.Int d) = pair-other _ _ (scale-other d.log_scale _) (scale-other d.log_scale _)
ends-other (Distribution.Categorical d) = (fine _)

bounds-other : (d : Distribution) → Other (bounds_of d)
unfolding bounds_of
bounds-other d = by-test Other (shape_of d) _ _ (λ _. ends-other d) (λ _. domain _)

-- ---- a decoding

unscale-other : (log : Bool) (x : Float) → Other (unscale_of log x)
unscale-other log x = pick-other log _ _ (exp-other x) (fine _)

decoded-other : (x : Float) (d : Distribution) → Other (decoded_of x d)
unfolding decoded_of
decoded-other x (Distribution.Float d) = made-other _ _ (unscale-other d.log_scale x)
decoded-other x (Distribution.Int d) = made-other _ _ (unscale-other d.log_scale x)
decoded-other x (Distribution.Categorical d) = domain _

from-other : (x : Float) (d : Distribution) → Other (from_internal_of x d)
unfolding from_internal_of
from-other x d = by-test Other (inside (bounds_of d) x) _ _ (λ _. decoded-other x d) (λ _. domain _)

-- ---- a draw

log-other : (b : InternalBounds) (u : Float) → Other b → Other (log_range b u)
log-other (Ok (Some p)) u o = exp-other _
log-other (Ok None) u o = (domain _)
log-other (Err c) u o = record { no = o.no }

word-other : (w : ℕ) → Other (word_draw_of w)
unfolding word_draw_of
word-other w = by-test Other (eqb w 0) _ _ (λ _. (domain _)) (λ _. (fine _))

unit-other : (w : ℕ) → Other (unit_draw_of w)
unfolding unit_draw_of
unit-other w = read-other _ _ (word-other w)

whole-other : (w : ℕ) (a b : ℤ) → Other (whole_draw_of w a b)
unfolding whole_draw_of
whole-other w a b = by-test Other (range_ok a b) _ _ (λ _. read-other _ _ (word-other w)) (λ _. (domain _))

log-drawn : {A : Type 0} (w : ℕ) (d : Distribution) (f : Float → A) → Other (drawing (λ u. made f (log_range (bounds_of d) u)) (unit_draw_of w))
log-drawn w d f = then-other _ _ (unit-other w) (λ x. made-other _ _ (made-other f _ (log-other (bounds_of d) x.value (bounds-other d))))

pub random-other : (w : ℕ) (d : Distribution) → Other (sample_random_of w d)
unfolding sample_random_of random_of float_random unclamped_random int_random log_float_random stepped_float_random linear_float_random log_int_random stepped_int_random linear_int_random categorical_random
random-other w d = by-test Other (shape_of d) _ _ (λ _. random d) (λ _. (domain _))
  where
    random : (d : Distribution) → Other (random_of w d)
    random (Distribution.Float d) = read-other _ _ (by-test Other d.log_scale _ _ (λ _. log-drawn w (Distribution.Float d) _) (λ _. by-step Other _ d.step _ (λ _ _. read-other _ _ (whole-other w _ _)) (λ _. read-other _ _ (unit-other w))))
    random (Distribution.Int d) = by-test Other d.log_scale _ _ (λ _. log-drawn w (Distribution.Int d) _) (λ _. by-step Other _ d.step _ (λ _ _. read-other _ _ (whole-other w _ _)) (λ _. read-other _ _ (whole-other w _ _)))
    random (Distribution.Categorical d) = read-other _ _ (whole-other w _ _)

-- ---- the values of a new trial

step-other : (d : DimensionInfo) (u : Option Float) (w : ℕ) → Other (step_of d u w)
unfolding step_of
step-other d (Some u) w = by-test Other (continuous_of d.distribution) _ _ (λ _. made-other _ _ (from-other _ d.distribution)) (λ _. random-other w d.distribution)
step-other d None w = random-other w d.distribution

pub walked-other : (point : Option (List Float)) (dims : List DimensionInfo) (k w : ℕ) → Other (walked_of point dims k w)
unfolding walk_of
walked-other point dims k w = made-other _ _ (walk k)
  where
    walk : (j : ℕ) → Other (walk_of point dims j w)
    walk zero = (fine _)
    walk (suc j) = then-other _ _ (walk j) (λ b. made-other (walk_more b) (step_at point dims j b.next) (step-other (dimension_at dims j) (coordinate_of point (length (columns_of dims j))) b.next))
