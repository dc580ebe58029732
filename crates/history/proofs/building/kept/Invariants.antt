use mathlib.Core.Path.{◌≡◌}
use Rattle.arith.specs.Lists.{places_of}
use Rattle.history.specs.Places.{places_in}
use Rattle.history_rows.specs.Rows.{row_at}
use Rattle.history.specs.Training.{trains_of}
use Rattle.history.proofs.building.kept.Given as goal

abbrev pub invariant-loop-i : goal.invariant-loop-i
invariant-loop-i l = l.places ≡ places_in (places_of l.i (λ k. trains_of l.rows.slots l.columns.mapping.now l.columns.places.now (row_at l.rows.slots l.rows.words.now k)))
