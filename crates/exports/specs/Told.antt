-- One word for an answer: the value's, or the refusal's number. Definitions only.
use Rattle.refusal.specs.declared.Refusal.{Refusal}
use Rattle.refusal.specs.Numbers.{cause_number}
use Rattle.std.specs.Prelude.{ℕ, Result, Ok, Err, Float}
use Rattle.std.specs.Float.{binary64}
use Rattle.std.specs.Float.Ieee.{to_bits}

abbrev pub told_of : Result Float Refusal → ℕ
told_of (Ok x) = to_bits binary64 x
told_of (Err r) = cause_number r
