-- `lanes::posteriors::posterior_sums` meets its contract, by its tests. Assumes nothing.
use Prim.Native.Nat.{◌*◌, ◌≤◌}
use native.Mathlib.Nat.{mul-le-mul}
use native.Mathlib.Omega.{arith}
use lib.ListN.{length}
use Rattle.lanes.proofs.posteriors.posterior_sums.Goals as goal

pub overflow_mul-n : goal.overflow_mul-n
overflow_mul-n c = let g = c.args in let s : g.n * length g.lengthscales.now ≤ 100 * 20 = mul-le-mul c.if-n-le100.true c.if-d-le20.true in omega arith
