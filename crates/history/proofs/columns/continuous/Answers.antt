-- `history::columns::continuous` meets its contract: before each turn the places hold the continuous dimensions before j. Assumes nothing.
use Prim.Native.Nat.{ℕ}
use mathlib.Core.Path.{sym, ◌∙◌}
use mathlib.Core.Bool.{Bool}
use native.Mathlib.Omega.{arith}
use Rattle.arith.specs.Lists.{places_of}
use Rattle.distribution.specs.Shape.{continuous_of}
use Rattle.dimensions.specs.declared.DimensionInfo.{DimensionInfo}
use Rattle.dimensions.specs.Dimensions.{dimension_at, columns_of}
use mathlib.Core.List.{List}
use Rattle.history.proofs.PlaceList.{places-room, places-then, places-else}
use Rattle.history.proofs.columns.continuous.Goals as goal
use Rattle.history.proofs.columns.continuous.Goals.{then-is_continuous, else-is_continuous}

test : List DimensionInfo → ℕ → Bool
test dims j = continuous_of (dimension_at dims j).distribution

pub loop-j-init : goal.loop-j-init
unfolding columns_of places_of
loop-j-init c = c.new-places.ensures

pub push-requires : goal.push-requires
unfolding columns_of test
push-requires c = places-room _ c.loop-j.j (test c.args.dims.now.list) (omega arith) c.loop-j.invariant

pub loop-j-preserved : goal.loop-j-preserved
unfolding columns_of test
loop-j-preserved c =
    let l = c.loop-j in
    let t = test c.args.dims.now.list in
    elim c.if-is_continuous.branch [
      | then-is_continuous w ↦ rw w.places-is (places-then _ l.j t (omega arith) l.invariant _ (sym c.is_continuous.ensures ∙ w.if-is_continuous.true) w.push.ensures)
      | else-is_continuous w ↦ rw w.places-is (places-else _ l.j t (omega arith) l.invariant (sym c.is_continuous.ensures ∙ w.if-is_continuous.false))
    ]
