use mathlib.Core.Path.{◌≡◌}
use lib.ListN.{get_or}
use lib.Ieee.{nan, binary64, sub, div}
use Rattle.arith.specs.Sums.{sum_over}
use Rattle.kernel.specs.Matern.{square}
use Rattle.kernel.proofs.distance.Given as goal

abbrev pub invariant-loop-i : goal.invariant-loop-i
invariant-loop-i l =
    l.r_sq ≡ sum_over l.i (λ j. square (div binary64 (sub binary64 (get_or l.x1 j nan) (get_or l.x2 j nan)) (get_or l.lengthscales j nan)))
