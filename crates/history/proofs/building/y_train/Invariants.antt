use mathlib.Core.Path.{◌≡◌}
use lib.ListN.{get_or}
use lib.Ieee.{binary64, of_bits}
use Rattle.arith.specs.Lists.{list_of, padded}
use Rattle.history_rows.specs.Rows.{row_at, objective_of}
use Rattle.history.proofs.building.y_train.Given as goal

abbrev pub invariant-loop-c : goal.invariant-loop-c
invariant-loop-c l = l.out ≡ padded 100 (list_of (λ c. of_bits binary64 (objective_of (row_at l.rows.slots l.rows.words.now (get_or l.kept c 0)))) l.c)
