-- The three draws of document 01: the next word, a unit float and a whole number, each at a generator word.
use Rattle.std.specs.Prelude.{ℕ, ◌/◌, ◌^◌, Bool, ◌&&◌, cond, eqb, leb, ℤ, pos, ◌+ℤ◌, ◌-ℤ◌, nat_abs, Float, Result, Ok, Err}
use Rattle.std.specs.Int.Signed.{le_z, rem_z}
use Rattle.std.specs.Float.{binary64}
use Rattle.std.specs.Float.Ieee.{div, of_int}
use Rattle.rng_util.specs.Generator.{next_of}
use Rattle.refusal.specs.declared.Refusal.{Refusal}
use Rattle.refusal.specs.declared.Refusal.TheVariants.{OutOfDomain}
use Rattle.rng_util.specs.declared.Draw.{Draw}

-- "(word >> 12)/2^52", of the word drawn
unfoldable pub unit_of : ℕ → Float
unit_of word = div binary64 (of_int binary64 (pos (word / 2 ^ 12))) (of_int binary64 (pos (2 ^ 52)))

-- "a + word mod (b − a + 1)", of the word drawn
unfoldable pub whole_of : ℤ → ℤ → ℕ → ℤ
whole_of a b word = a +ℤ rem_z (pos word) (b -ℤ a +ℤ pos 1)

-- "with a ≤ b, both at most 2^53 in magnitude"
unfoldable pub range_ok : ℤ → ℤ → Bool
range_ok a b = le_z a b && leb (nat_abs a) (2 ^ 53) && leb (nat_abs b) (2 ^ 53)

-- what f reads from the value drawn
abbrev pub read_by : {A B : Type 0} → (A → B) → Result (Draw A) Refusal → Result (Draw B) Refusal
read_by f (Ok d) = Ok (record { value = f d.value; drawn = d.drawn; next = d.next })
read_by f (Err r) = Err r

-- the next word. "Other ends, or a zero generator word, are 11", here and below
unfoldable pub word_draw_of : ℕ → Result (Draw ℕ) Refusal
word_draw_of w = cond (eqb w 0) (Err OutOfDomain) (Ok (record { value = next_of w; drawn = 1; next = next_of w }))

-- a unit float
unfoldable pub unit_draw_of : ℕ → Result (Draw Float) Refusal
unfolding word_draw_of
unit_draw_of w = read_by unit_of (word_draw_of w)

-- a whole number in a..=b
unfoldable pub whole_draw_of : ℕ → ℤ → ℤ → Result (Draw ℤ) Refusal
unfolding word_draw_of
whole_draw_of w a b = cond (range_ok a b) (read_by (whole_of a b) (word_draw_of w)) (Err OutOfDomain)

-- "Words drawn: the generator's moves in a call, 0 if refused."
abbrev pub drawn_by : {A : Type 0} → Result (Draw A) Refusal → ℕ
drawn_by (Ok d) = d.drawn
drawn_by (Err r) = 0

-- the generator's word after a draw; a refusal leaves it as it was
abbrev pub word_after : {A : Type 0} → ℕ → Result (Draw A) Refusal → ℕ
word_after w (Ok d) = d.next
word_after w (Err r) = w
