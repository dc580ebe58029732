-- `exponential::none_above` meets its contract. Assumes nothing.
use mathlib.Core.Path.{◌∙◌}
use Rattle.std.proofs.Common.{◌≡◌, arith, length, not, rules, tests}
use Rattle.std.proofs.lemmas.Iterator.{YieldsList-from_slice}
use Rattle.std.proofs.lemmas.Iterator.Search.{all_from_yields_List}
use lib.Ieee.{Float, nan, binary64, lt, of_bits, of_int}
use Rattle.arith.proofs.Passing.{all_every}
use Rattle.exponential.specs.Exp.{none_above}
use Rattle.exponential.proofs.none_above.Goals as goal

pub returns : goal.returns
unfolding none_above of_int of_bits
returns c =
    let e : length c.args.x.now ≡ 8 = omega arith in
    let test = λ (x : Float). not (lt (of_bits binary64 0x4086280000000000) x) in
    all_from_yields_List test _ _ c.all.result c.all.ensures.ran (YieldsList-from_slice c.args.x.now cc) (λ x b q k. search (rules, tests))
    ∙ all_every test c.args.x.now nan 8 e
