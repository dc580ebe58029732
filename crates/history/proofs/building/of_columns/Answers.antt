-- `history::building::of_columns` meets its contract. Assumes nothing.
use Rattle.history.proofs.KeptRows.{train-cells}
use Rattle.history.proofs.PlaceList.{places-lent}
use Rattle.arith.proofs.Lists.{places-length}
use native.Mathlib.Nat.{le_trans}
use Rattle.history.proofs.building.of_columns.Goals as goal

pub built-requires : goal.built-requires
built-requires c =
    rw (places-lent _ _ c.kept-kept.ensures) (le_trans (places-length _ _) c.args.rows.now.few, train-cells _ _ _ _ _ c.args.columns.now.known)

pub returns : goal.returns
returns c = rw (c.built.ensures, places-lent _ _ c.kept-kept.ensures)
