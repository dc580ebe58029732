-- Drawing is moving, for each draw: by cases on whether it is refused.
use mathlib.Core.Path.{◌≡◌, refl}
use mathlib.Core.Bool.{Bool, true, false, cond}
use Prim.Native.Nat.{ℕ}
use lib.Dec.{eqb}
use Rattle.std.specs.Prelude.{Result, Ok, Err}
use Rattle.refusal.specs.declared.Refusal.{Refusal}
use Rattle.refusal.specs.declared.Refusal.TheVariants.{OutOfDomain}
use Rattle.rng_util.specs.declared.Draw.{Draw}
use Rattle.rng_util.specs.Generator.{moved_of}
use Rattle.rng_util.specs.Draws.{unit_of, whole_of, range_ok, read_by, word_draw_of, unit_draw_of, whole_draw_of}
use Rattle.rng_util.specs.Moves.{Moves, DrawingIsMoving}

-- so for the next word, and for what is read from a draw for which it is so
word : (w : ℕ) → Moves (λ n. n) w (word_draw_of w)
unfolding word_draw_of moved_of
word w = go (eqb w 0) refl
  where
    go : (t : Bool) → eqb w 0 ≡ t → Moves (λ n. n) w (word_draw_of w)
    go true e = rw e (record { next = refl; value = λ d f. cc })
    go false e = rw e (record { next = refl; value = λ d f. cc })

read : {A : Type 0} (f : ℕ → A) (w : ℕ) (r : Result (Draw ℕ) Refusal) → Moves (λ n. n) w r → Moves f w (read_by f r)
unfolding moved_of
read f w (Ok d) m = record { next = m.next; value = λ d' e. let v = m.value d refl in cc }
read f w (Err x) m = record { next = refl; value = λ d e. cc }

pick : {A : Type 0} (t : Bool) (f : ℕ → A) (w : ℕ) (r : Result (Draw A) Refusal) → Moves f w r → Moves f w (cond t r (Err OutOfDomain))
unfolding moved_of
pick true f w r m = m
pick false f w r m = record { next = refl; value = λ d e. cc }

pub drawing_is_moving : DrawingIsMoving
unfolding unit_draw_of whole_draw_of
drawing_is_moving = record {
  word = word;
  unit = λ w. read unit_of w _ (word w);
  whole = λ w a b. pick (range_ok a b) (whole_of a b) w _ (read (whole_of a b) w _ (word w));
}
