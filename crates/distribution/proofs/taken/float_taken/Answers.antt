-- `distribution::taken::float_taken` meets its contract: std's order of floats is `le`, and the literals are computed.
use mathlib.Core.Path.{ap}
use lib.IntN.{pos, negsuc}
use lib.Ieee.{Float, neg, of_bits}
use mathlib.Core.Bool.{Bool}
use Rattle.distribution.specs.Shape.{power, ranged}
use Rattle.distribution.specs.Taken.{float_taken}
use Rattle.distribution.proofs.Order.{floats}
use Rattle.distribution.proofs.taken.float_taken.Goals as goal

pub returns : goal.returns
unfolding float_taken of_bits
returns c =
    rw c.ranged.ensures
    (ap (λ (below : Float → Float → Bool). ranged below (neg (power (pos 53))) (power (pos 53)) (power (negsuc 52)) c.args.log_scale c.args.x) floats)
