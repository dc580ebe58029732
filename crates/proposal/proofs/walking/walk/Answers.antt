-- `proposal::walking::walk` meets its contract: before each turn the first j dimensions are walked, and c columns are among them. Assumes nothing.
use Prim.Native.Nat.{ℕ, suc, ◌+◌, ◌-◌, ◌≤◌}
use mathlib.Core.Path.{◌≡◌, refl, sym, ap, subst, ◌∙◌}
use native.Mathlib.Numerals.{add-one}
use native.Mathlib.Omega.{arith}
use lib.ListN.{length}
use lib.Ieee.{of_bits}
use Rattle.std.proofs.lemmas.Result.{err_from_is_err_and}
use Rattle.arith.specs.Outcome.{made}
use Rattle.arith.specs.Lists.{places_of}
use Rattle.dimensions.specs.Dimensions.{columns_of}
use Rattle.history.proofs.PlaceList.{columns-few}
use Rattle.proposal.specs.Values.{step_at, walk_of, values_in, walked_of}
use Rattle.common.proofs.Moves.{Moved}
use Rattle.proposal.proofs.Walk.{step-moves, walked-in, walk-next, walk-stops, columns-next}
use Rattle.proposal.proofs.walking.walk.Goals as goal
use Rattle.proposal.proofs.walking.walk.Goals.{After-step}

pub loop-j-init : goal.loop-j-init
unfolding walk_of columns_of places_of of_bits
loop-j-init c = (refl, refl)

-- the step of dimension j
stepped : (c : After-step) → c.step.result ≡ step_at c.args.point c.args.dims.list c.loop-j.j c.loop-j.next
stepped c = rw (← c.loop-j.invariant.1, ← c.coordinate.ensures) c.step.ensures

pub coordinate-requires : goal.coordinate-requires
coordinate-requires c = let f = columns-few c.args.dims.list c.loop-j.j in omega arith

pub returns-in_err-r : goal.returns-in_err-r
returns-in_err-r c =
    let a = c.args in
    let j = c.loop-j.j in
    let p = err_from_is_err_and c.from_residual.result c.from_residual.ensures.1 in
    let s = sym (stepped (goal.at.returns-in_err-r c).After-step) ∙ c.in_err-r.was in
    let n : a.dims.count - suc j + suc j ≡ a.dims.count = omega arith in
    rw (p.1, p.2) (sym (ap (λ (i : ℕ). walked_of a.point a.dims.list i a.word) (sym n) ∙ ap (made values_in) (walk-stops a.point a.dims.list a.word j _ _ c.loop-j.invariant.0 s (a.dims.count - suc j))))

pub overflow_add-drawn : goal.overflow_add-drawn
overflow_add-drawn c =
    let a = c.args in
    let f = (walked-in a.point a.dims.list a.word c.loop-j.j _ c.loop-j.invariant.0).few in
    let m : c.in_ok-r.r.drawn ≤ 1 = (subst (Moved c.loop-j.next) (sym (stepped (goal.at.overflow_add-drawn c).After-step) ∙ c.in_ok-r.was) (step-moves _ _ c.loop-j.next)).few in
    omega arith

pub overflow_add-c : goal.overflow_add-c
overflow_add-c c =
    let dims = c.args.dims.list in
    let j = c.loop-j.j in
    let e : c.loop-j.c + c.column_width-c.result ≡ length (columns_of dims (suc j)) = rw (c.column_width-c.ensures, c.loop-j.invariant.1) (columns-next dims j) in
    let q = columns-few dims (suc j) in
    omega arith

pub loop-j-preserved : goal.loop-j-preserved
loop-j-preserved c =
    let a = c.args in
    let l = c.loop-j in
    let s = sym (stepped (goal.at.loop-j-preserved c).After-step) ∙ c.in_ok-r.was in
    (rw (add-one l.j) (walk-next a.point a.dims.list a.word l.j _ c.in_ok-r.r (omega arith) l.invariant.0 s), rw (add-one l.j, l.invariant.1, c.column_width-c.ensures) (columns-next a.dims.list l.j))
