-- `arith::value` meets its contract: Rust's NAN is the one NaN. Assumes nothing.
use Rattle.std.specs.Prelude.{Result, Ok, Err}
use Rattle.std.proofs.Common.{◌≡◌, refl, ◌∙◌}
use Rattle.std.specs.Result.{result_unwrap_or}
use lib.Ieee.{Float, binary64, of_bits}
use Rattle.refusal.specs.declared.Refusal.{Refusal}
use Rattle.arith.specs.Outcome.{value_of}
use Rattle.arith.proofs.value.Goals as goal

or_nan : (o : Result Float Refusal) → result_unwrap_or o (of_bits binary64 0x7ff8000000000000) ≡ value_of o
unfolding of_bits
or_nan (Ok x) = refl
or_nan (Err r) = refl

pub returns : goal.returns
returns c = c.unwrap_or.ensures ∙ or_nan c.args.answer
