use mathlib.Core.Path.{◌≡◌}
use Rattle.arith.specs.Sums.{sum_over}
use Rattle.gp_model.specs.Statistics.{column_of}
use Rattle.gp_model.proofs.tables.Table.column_sum.Given as goal

abbrev pub invariant-loop-i : goal.invariant-loop-i
invariant-loop-i l = l.total ≡ sum_over l.i (column_of l.self.cells.now l.self.d l.j)
