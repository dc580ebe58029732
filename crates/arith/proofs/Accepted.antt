-- Answers that are values. Assumes nothing.
use Rattle.refusal.specs.declared.Refusal.{Refusal}
use Rattle.std.specs.Prelude.{Result, Ok}
use Rattle.std.proofs.Common.{◌≡◌, Bool, true, false, sym, ap, ◌∙◌}
use lib.Ieee.{Float}
use Rattle.arith.specs.Outcome.{made, pick, value_of}

abbrev pub Accepted : Result Float Refusal → Type 0
Accepted o = (v : Float) × (o ≡ Ok v)

pub accepted-value : (o : Result Float Refusal) → Accepted o → o ≡ Ok (value_of o)
accepted-value o a = a.1 ∙ ap Ok (sym (ap value_of a.1))

pub made-accepted : (f : Float → Float) (o : Result Float Refusal) → Accepted o → Accepted (made f o)
made-accepted f o a = (f a.0, ap (made f) a.1)

pub pick-accepted : (b : Bool) (o p : Result Float Refusal) → Accepted o → Accepted p → Accepted (pick b o p)
pick-accepted true o p a c = a
pick-accepted false o p a c = c
