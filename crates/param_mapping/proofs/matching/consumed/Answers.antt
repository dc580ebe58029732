-- `param_mapping::matching::consumed` meets its contract. Assumes nothing.
use mathlib.Core.Path.{◌∙◌}
use Rattle.std.proofs.Common.{ℕ, rules, tests}
use Rattle.std.proofs.lemmas.Iterator.{YieldsList-from_slice}
use Rattle.std.proofs.lemmas.Iterator.Search.{any_from_yields_List}
use Rattle.arith.proofs.Passing.{any_every}
use Rattle.std.specs.Prelude.{Option, None}
use Rattle.param_mapping.specs.Mapping.{is_mapped, consumed_of}
use Rattle.param_mapping.proofs.matching.consumed.Goals as goal

pub returns : goal.returns
unfolding consumed_of
returns c =
    let test = λ (m : Option ℕ). is_mapped c.args.id m in
    any_from_yields_List test _ _ c.any.result c.any.ensures.ran (YieldsList-from_slice c.args.before.now cc) (λ x b q k. search (rules, tests))
    ∙ any_every test c.args.before.now None
