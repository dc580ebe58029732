-- `lanes::solving::solve` meets its contract: forward, then backward. Assumes nothing.
use native.Mathlib.Omega.{arith}
use Rattle.lanes.proofs.Solved.{answered}
use Rattle.lanes.proofs.solving.solve.Goals as goal

pub returns : goal.returns
returns c =
    let g = c.args in
    rw (c.backward.ensures, c.forward-z.ensures) (answered g.l.now g.b.now g.n (omega arith))
