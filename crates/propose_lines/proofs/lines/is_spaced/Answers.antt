-- `propose_lines::lines::is_spaced` meets its contract, by what `all` answers. Assumes nothing.
use Rattle.std.proofs.Common.{◌∙◌, ◌+◌, ◌*◌, ◌-◌, get_or, eqb, rules, refl, arith}
use Rattle.std.proofs.lemmas.Iterator.{YieldsList-from_range}
use Rattle.std.proofs.lemmas.Iterator.Search.{all_from_yields_List}
use borrow.Author.Tests.{tests}
use Rattle.arith.proofs.Passing.{below_every}
use Rattle.propose_lines.proofs.lines.is_spaced.Goals as goal

pub returns : goal.returns
returns c =
    let n = c.args.k - 1 in
    let space = λ (i : _). eqb (get_or c.args.line.now (17 * i + 16) 0) 32 in
    all_from_yields_List space _ _ c.all.result c.all.ensures.ran (YieldsList-from_range 0 n n refl (omega arith)) (λ x b q k. search (rules, tests))
    ∙ below_every n space
