-- `gp_model::statistics::all_within` meets its contract. Assumes nothing.
use mathlib.Core.Path.{◌∙◌}
use Rattle.std.proofs.Common.{refl, rules, tests}
use Rattle.std.proofs.lemmas.Iterator.{YieldsList-from_slice}
use Rattle.std.proofs.lemmas.Iterator.Search.{all_from_yields_List}
use lib.Ieee.{Float, nan, le}
use Rattle.arith.specs.Bounds.{abs}
use Rattle.gp_model.specs.Statistics.{all_within}
use Rattle.arith.proofs.Passing.{all_every}
use Rattle.gp_model.proofs.statistics.all_within.Goals as goal

pub returns : goal.returns
unfolding all_within
returns c =
    let test = λ (x : Float). le (abs x) c.args.limit in
    all_from_yields_List test _ _ c.all.result c.all.ensures.ran (YieldsList-from_slice c.args.xs.now cc) (λ x b q k. search (rules, tests))
    ∙ all_every test c.args.xs.now nan _ refl
