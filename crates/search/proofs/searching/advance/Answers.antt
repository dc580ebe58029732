-- `search::searching::advance` meets its contract: turn by turn, and then what is left. Assumes nothing.
use mathlib.Core.Path.{◌≡◌, refl, ◌∙◌, ap}
use Prim.Native.Nat.{◌+◌, ◌*◌, ◌%◌}
use native.Mathlib.Omega.{arith}
use Rattle.search.specs.Search.{advance_of}
use Rattle.search.specs.Lent.{model_of}
use Rattle.search.proofs.Beside.{advance-add, advance-nonzero}
use Rattle.search.proofs.searching.advance.Goals as goal

pub loop-init : goal.loop-init
unfolding advance_of
loop-init c = (refl, c.requires)

pub loop-preserved : goal.loop-preserved
loop-preserved c =
    let l = c.loop in
    let m = model_of c.args.m in
    let e : l.counter * 8 + 8 ≡ (l.counter + 1) * 8 = omega arith in (
      rw (c.some_candidates-s.ensures, l.invariant.0) (advance-add m (l.counter * 8) 8 c.args.start ∙ ap (λ k. advance_of m k c.args.start) e),
      rw c.some_candidates-s.ensures (advance-nonzero m 8 l.s l.invariant.1),
    )

pub returns-in_default : goal.returns-in_default
returns-in_default c =
    let l = c.loop in
    let m = model_of c.args.m in
    let n = c.args.candidates in
    let e : l.counter * 8 + n % 8 ≡ n = omega arith in
    rw (c.some_candidates.ensures, l.invariant.0) (advance-add m (l.counter * 8) (n % 8) c.args.start ∙ ap (λ k. advance_of m k c.args.start) e)
