-- `proposal::proposing::from_point` meets its contract. Assumes nothing.
use Prim.Native.Nat.{◌≤◌}
use mathlib.Core.Path.{sym, ◌∙◌}
use native.Mathlib.Omega.{arith}
use Rattle.std.specs.Prelude.{Some}
use Rattle.proposal.proofs.Walk.{walked-in}
use Rattle.proposal.proofs.proposing.from_point.Goals as goal

pub overflow_add-result : goal.overflow_add-result
overflow_add-result c =
    let p = c.args.p in
    let m : c.in_ok-v.v.drawn ≤ c.args.dims.count = (walked-in (Some p.value) c.args.dims.list p.next c.args.dims.count c.in_ok-v.v (sym c.walk.ensures ∙ c.in_ok-v.was)).few in
    omega arith
