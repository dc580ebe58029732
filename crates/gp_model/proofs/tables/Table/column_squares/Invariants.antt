use mathlib.Core.Path.{◌≡◌}
use lib.Ieee.{binary64, sub}
use Rattle.arith.specs.Sums.{sum_over}
use Rattle.kernel.specs.Matern.{square}
use Rattle.gp_model.specs.Statistics.{column_of}
use Rattle.gp_model.proofs.tables.Table.column_squares.Given as goal

abbrev pub invariant-loop-i : goal.invariant-loop-i
invariant-loop-i l = l.total ≡ sum_over l.i (λ k. square (sub binary64 (column_of l.self.cells.now l.self.d l.j k) l.m))
