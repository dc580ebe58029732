-- `exponential::exponentials` meets its contract, lane by lane. Assumes nothing.
use Rattle.std.proofs.Common.{arith}
use Rattle.arith.proofs.Eights.{eight_floats}
use Rattle.exponential.proofs.FallingLaws.{sizes-small, fallings-at}
use Rattle.exponential.proofs.exponentials.Goals as goal

pub fallings-e-requires : goal.fallings-e-requires
fallings-e-requires c = sizes-small c.args.x.now c.wholes-n.result c.wholes-n.ensures

pub returns : goal.returns
returns c =
    let h = fallings-at c.args.x.now c.wholes-n.result c.wholes-n.ensures c.fallings-e.result c.fallings-e.ensures in
    grind (arith, eight_floats, h)
