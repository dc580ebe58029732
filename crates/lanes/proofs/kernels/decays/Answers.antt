-- `lanes::kernels::decays` meets its contract, lane by lane. Assumes nothing.
use Rattle.std.specs.Prelude.{Ok}
use mathlib.Core.Path.{◌≡◌}
use lib.ListN.{get_or}
use lib.Ieee.{nan}
use Rattle.arith.specs.Outcome.{value_of}
use Rattle.exponential.specs.Exp.{exp_of}
use Rattle.lanes.specs.Rows.{eight_of}
use Rattle.lanes.proofs.DecayRow.{decay-row, exponentials-known}
use Rattle.lanes.proofs.kernels.decays.Goals as goal
use Rattle.lanes.proofs.kernels.decays.Goals.{After-exp_eight}

known : (c : After-exp_eight) → c.exp_eight.result ≡ Ok (eight_of (λ p. value_of (exp_of (get_or c.negated-x.result p nan))))
known c = exponentials-known c.args.r_sq.now c.scaled_roots-q.result c.negated-x.result c.exp_eight.result c.scaled_roots-q.ensures c.negated-x.ensures c.exp_eight.ensures

pub unwrap-e-requires : goal.unwrap-e-requires
unwrap-e-requires c = rw (known (goal.at.unwrap-e-requires c).After-exp_eight)

pub returns : goal.returns
returns c =
    let k = known (goal.at.returns c).After-exp_eight in
    let e : c.unwrap-e.result ≡ eight_of (λ p. value_of (exp_of (get_or c.negated-x.result p nan))) = cc in
    decay-row c.args.r_sq.now c.scaled_roots-q.result c.negated-x.result c.unwrap-e.result c.polynomials.result c.scaled_roots-q.ensures c.negated-x.ensures e c.polynomials.ensures
