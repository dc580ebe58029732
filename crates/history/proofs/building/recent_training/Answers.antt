-- `history::building::recent_training` meets its contract. Assumes nothing.
use native.Mathlib.Nat.{le_trans}
use mathlib.Core.Path.{◌∙◌}
use Rattle.history.proofs.FromArray.{column-below, training-same}
use Rattle.history.proofs.PlaceList.{columns-few, places-lent}
use Rattle.history.proofs.building.recent_training.Goals as goal

pub invariant_of-columns : goal.invariant_of-columns
invariant_of-columns c =
    let a = c.args in
    rw (places-lent _ _ c.continuous-places.ensures)
    (record { few = le_trans (columns-few a.dims.now.list a.dims.now.count) c.requires.0; known = λ j l. le_trans (column-below a.dims.now.list a.dims.now.count j l) c.requires.0 })

pub returns : goal.returns
returns c =
    let r = c.args.rows.now in
    c.of_columns.ensures
    ∙ rw (places-lent _ _ c.continuous-places.ensures, c.requires.2) (training-same r.slots c.args.dims.now.list c.args.dims.now.count r.words.now r.count c.requires.1)
