use Prim.Native.Nat.{◌/◌, ◌%◌}
use mathlib.Core.Path.{◌≡◌}
use lib.ListN.{get_or}
use Rattle.arith.specs.Lists.{list_of, padded}
use Rattle.history_rows.specs.Rows.{row_at}
use Rattle.history.specs.Training.{column_of}
use Rattle.history.proofs.building.x_train.Given as goal

abbrev pub invariant-loop-p : goal.invariant-loop-p
invariant-loop-p l =
    l.out ≡ padded 2000 (list_of (λ q. column_of l.rows.slots l.columns.dims.now l.columns.mapping.now (row_at l.rows.slots l.rows.words.now (get_or l.kept (q / l.d) 0)) (get_or l.columns.places.now (q % l.d) 0)) l.p)
