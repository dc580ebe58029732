use mathlib.Core.Path.{◌≡◌}
use lib.ListN.{length}
use Rattle.lanes.specs.Rows.{rows_of}
use Rattle.lanes.specs.Kernels.{kernel_rows_of}
use Rattle.lanes.proofs.kernels.kernel_rows.Given as goal

abbrev pub invariant-loop-i : goal.invariant-loop-i
invariant-loop-i l = (l.out ≡ rows_of (kernel_rows_of l.points l.x l.i (length l.lengthscales) l.lengthscales))
