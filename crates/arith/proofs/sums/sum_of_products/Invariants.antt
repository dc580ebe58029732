use Rattle.std.proofs.Common.{◌≡◌, ◌≤◌, length, get_or}
use lib.Ieee.{nan, binary64, mul}
use Rattle.arith.specs.Sums.{sum_over}
use Rattle.arith.proofs.sums.sum_of_products.Given as goal

abbrev pub invariant-loop-i : goal.invariant-loop-i
invariant-loop-i l = (l.i ≤ length l.xs) × (l.total ≡ sum_over l.i (λ j. mul binary64 (get_or l.xs j nan) (get_or l.ys j nan)))
