-- `slots::slot::all_zero` meets its contract, by what `all` answers. Assumes nothing.
use Rattle.std.proofs.Common.{◌∙◌, get_or, eqb, rules, refl}
use Rattle.std.proofs.lemmas.Iterator.{YieldsList-from_range}
use Rattle.std.proofs.lemmas.Iterator.Search.{all_from_yields_List}
use borrow.Author.Tests.{tests}
use Rattle.arith.proofs.Passing.{below_every}
use Rattle.slots.proofs.slot.all_zero.Goals as goal

pub returns : goal.returns
returns c =
    let zero = λ (k : _). eqb (get_or c.args.slot.now k 0) 0 in
    all_from_yields_List zero _ _ c.all.result c.all.ensures.ran (YieldsList-from_range 0 8 8 refl refl) (λ x b q k. search (rules, tests))
    ∙ below_every 8 zero
