-- What an answer says beside its number (refusal/specs/Numbers): its word, its value, and what is made of it. Definitions only.
use Rattle.refusal.specs.declared.Refusal.{Refusal}
use Rattle.std.specs.Prelude.{ℕ, Bool, true, false, to_bits, Float, Result, Ok, Err}
use Rattle.std.specs.Float.{nan, binary64}

-- the word of its value, 0 where it is refused
abbrev pub word_of : Result Float Refusal → ℕ
word_of (Ok x) = to_bits binary64 x
word_of (Err r) = 0

-- the value, a NaN where there is none: for answers that a theorem shows to be accepted
abbrev pub value_of : Result Float Refusal → Float
value_of (Ok x) = x
value_of (Err r) = nan

-- what is made of a value; a refusal is passed on
abbrev pub made : {A B : Type 0} → (A → B) → Result A Refusal → Result B Refusal
made f (Ok x) = Ok (f x)
made f (Err r) = Err r

-- what is answered of a value; a refusal is passed on
abbrev pub and_then : {A B : Type 0} → Result A Refusal → (A → Result B Refusal) → Result B Refusal
and_then (Ok x) f = f x
and_then (Err r) f = Err r

-- the first answer where the test holds, else the second
abbrev pub pick : Bool → Result Float Refusal → Result Float Refusal → Result Float Refusal
pick true a b = a
pick false a b = b
