-- `dimensions::bounds::dimensions_ok` meets its contract, by what `all` answers. Assumes nothing.
use Rattle.std.proofs.Common.{◌∙◌, rules, arith, take}
use Rattle.std.proofs.lemmas.Iterator.{YieldsList-from_slice}
use Rattle.std.proofs.lemmas.Iterator.Search.{all_from_yields_List}
use borrow.Author.Tests.{tests, le-leb}
use Rattle.arith.proofs.Passing.{all_front}
use Rattle.dimensions.specs.Dimensions.{dimension_ok, dimensions_ok, no_dimension}
use Rattle.dimensions.proofs.bounds.dimensions_ok.Goals as goal

pub returns-then-dims-le20 : goal.returns-then-dims-le20
unfolding dimensions_ok
returns-then-dims-le20 c =
    let first = take c.args.dims.count c.args.dims.list in
    rw (le-leb _ 20 c.if-dims-le20.true)
    (all_from_yields_List dimension_ok _ _ c.all.result c.all.ensures.ran (YieldsList-from_slice first cc) (λ x b q k. search (rules, tests))
    ∙ all_front dimension_ok c.args.dims.list no_dimension c.args.dims.count (omega arith))
