-- `history::building::kept` meets its contract: before each turn the places hold the rows before i that train. Assumes nothing.
use Prim.Native.Nat.{ℕ}
use mathlib.Core.Path.{◌≡◌, sym, ◌∙◌}
use mathlib.Core.Bool.{Bool}
use native.Mathlib.Omega.{arith}
use Rattle.arith.specs.Lists.{places_of}
use Rattle.history_rows.specs.Rows.{row_at}
use Rattle.history.specs.Training.{trains_of}
use Rattle.history.proofs.PlaceList.{places-room, places-then, places-else}
use Rattle.history.proofs.building.kept.Goals as goal
use Rattle.history.proofs.building.kept.Goals.{then-trains, else-trains}

pub loop-i-init : goal.loop-i-init
unfolding places_of
loop-i-init c = c.new-places.ensures

pub push-requires : goal.push-requires
push-requires c = places-room _ c.loop-i.i _ (omega arith) c.loop-i.invariant

pub loop-i-preserved : goal.loop-i-preserved
loop-i-preserved c =
    let l = c.loop-i in
    let r = c.args.rows.now in
    let k = c.args.columns.now in
    let t : ℕ → Bool = λ i. trains_of r.slots k.mapping.now k.places.now (row_at r.slots r.words.now i) in
    let is : c.trains.result ≡ t l.i = rw (c.trains.ensures, c.row.ensures.0, c.row.ensures.1) in
    elim c.if-trains.branch [
      | then-trains w ↦ rw w.places-is (places-then _ l.i t (omega arith) l.invariant _ (sym is ∙ w.if-trains.true) w.push.ensures)
      | else-trains w ↦ rw w.places-is (places-else _ l.i t (omega arith) l.invariant (sym is ∙ w.if-trains.false))
    ]
