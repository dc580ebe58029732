-- A random value moves the generator as often as it says: once, or not at all. Assumes nothing.
use Prim.Native.Nat.{ℕ, ◌≤◌}
use mathlib.Core.Path.{◌≡◌, refl}
use native.Mathlib.Omega.{arith}
use lib.Dec.{eqb}
use lib.IntN.{ℤ}
use Rattle.std.specs.Prelude.{Result, Ok, Err}
use Rattle.refusal.specs.declared.Refusal.{Refusal}
use Rattle.refusal.specs.declared.Refusal.TheVariants.{OutOfDomain}
use Rattle.arith.proofs.Tests.{by-test}
use Rattle.arith.specs.Outcome.{made}
use Rattle.rng_util.specs.declared.Draw.{Draw}
use Rattle.rng_util.specs.Draws.{unit_of, whole_of, range_ok, read_by, word_draw_of, unit_draw_of, whole_draw_of, drawn_by, word_after}
use Rattle.rng_util.specs.Generator.{moved_of}
use Rattle.distribution.specs.Numbers.{FloatDistribution, IntDistribution}
use Rattle.distribution.specs.declared.Distribution.{Distribution}
use Rattle.distribution.specs.Shape.{shape_of}
use Rattle.distribution.proofs.Facts.{by-step}
use Rattle.common.specs.Random.{drawing, log_float_random, stepped_float_random, linear_float_random, unclamped_random, float_random, log_int_random, stepped_int_random, linear_int_random, int_random, categorical_random, random_of, sample_random_of}

-- the words drawn are the generator's moves, at most one
pub record Moved {A : Type 0} (w : ℕ) (r : Result (Draw A) Refusal) : Type 0 where
  pub few : drawn_by r ≤ 1
  pub next : word_after w r ≡ moved_of (drawn_by r) w

refused : {A : Type 0} (w : ℕ) (x : Refusal) → Moved {A = A} w (Err x)
refused w x = record { few = omega arith; next = unfold moved_of in refl }

-- what is made of a draw moves as the draw does
read : {A B : Type 0} (f : A → B) (w : ℕ) (r : Result (Draw A) Refusal) → Moved w r → Moved w (read_by f r)
read f w (Ok d) m = record { few = m.few; next = m.next }
read f w (Err x) m = refused w x

drawn : {A B : Type 0} (f : A → Result B Refusal) (w : ℕ) (r : Result (Draw A) Refusal) → Moved w r → Moved w (drawing f r)
drawn {B = B} f w (Ok d) m = go (f d.value)
  where
    go : (v : Result B Refusal) → Moved w (made (λ v. record { value = v; drawn = d.drawn; next = d.next }) v)
    go (Ok v) = record { few = m.few; next = m.next }
    go (Err x) = refused w x
drawn f w (Err x) m = refused w x

-- the draws
word : (w : ℕ) → Moved w (word_draw_of w)
unfolding word_draw_of
word w = by-test (Moved w) (eqb w 0) _ _ (λ _. refused w OutOfDomain) (λ _. record { few = omega arith; next = unfold moved_of in refl })

unit : (w : ℕ) → Moved w (unit_draw_of w)
unfolding unit_draw_of
unit w = read unit_of w _ (word w)

whole : (w : ℕ) (a b : ℤ) → Moved w (whole_draw_of w a b)
unfolding whole_draw_of
whole w a b = by-test (Moved w) (range_ok a b) _ _ (λ _. read (whole_of a b) w _ (word w)) (λ _. refused w OutOfDomain)

float : (w : ℕ) (d : FloatDistribution) → Moved w (float_random w d)
unfolding float_random unclamped_random log_float_random stepped_float_random linear_float_random
float w d = read _ w _ (by-test (Moved w) d.log_scale _ _ (λ _. drawn _ w _ (unit w)) (λ _. by-step (Moved w) _ d.step _ (λ _ _. read _ w _ (whole w _ _)) (λ _. read _ w _ (unit w))))

int : (w : ℕ) (d : IntDistribution) → Moved w (int_random w d)
unfolding int_random log_int_random stepped_int_random linear_int_random
int w d = by-test (Moved w) d.log_scale _ _ (λ _. drawn _ w _ (unit w)) (λ _. by-step (Moved w) _ d.step _ (λ _ _. read _ w _ (whole w _ _)) (λ _. read _ w _ (whole w _ _)))

random : (w : ℕ) (d : Distribution) → Moved w (random_of w d)
unfolding random_of categorical_random
random w (Distribution.Float d) = float w d
random w (Distribution.Int d) = int w d
random w (Distribution.Categorical d) = read _ w _ (whole w _ _)

pub random-moves : (w : ℕ) (d : Distribution) → Moved w (sample_random_of w d)
unfolding sample_random_of
random-moves w d = by-test (Moved w) (shape_of d) _ _ (λ _. random w d) (λ _. refused w OutOfDomain)
