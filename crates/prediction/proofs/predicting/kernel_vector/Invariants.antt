use mathlib.Core.Path.{◌≡◌}
use lib.ListN.{length}
use Rattle.arith.specs.Lists.{padded}
use Rattle.prediction.specs.Predict.{kernel_vector_of}
use Rattle.prediction.proofs.predicting.kernel_vector.Given as goal

abbrev pub invariant-loop-i : goal.invariant-loop-i
invariant-loop-i l = l.out ≡ padded 100 (kernel_vector_of l.x l.i (length l.p) l.lengthscales l.p)
