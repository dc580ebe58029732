-- `prediction::predicting::kernel_vector` meets its contract: before each turn the array holds the rows passed. Assumes nothing.
use Rattle.std.specs.Prelude.{Ok}
use Prim.Native.Nat.{◌+◌, ◌-◌, ◌*◌, ◌≤◌}
use mathlib.Core.Path.{◌≡◌, sym, ◌∙◌}
use native.Mathlib.Numerals.{add-one}
use native.Mathlib.Omega.{arith}
use lib.Ieee.{Float}
use lib.ListN.{length, drop}
use Rattle.std.proofs.lemmas.List.{length-drop, length-take-le}
use Rattle.arith.proofs.Lists.{grown-set, row-end}
use Rattle.gp_model.specs.Kernels.{row_of, similarity_of}
use Rattle.gp_model.proofs.Similar.{similar}
use Rattle.prediction.proofs.predicting.kernel_vector.Goals as goal
use Rattle.prediction.proofs.predicting.kernel_vector.Goals.{After-matern52}

-- the kernel of the point and row i
known : (c : After-matern52) → let g = c.args in c.matern52.result ≡ Ok (similarity_of g.p.now (row_of g.x.now (length g.p.now) c.loop-i.i) g.lengthscales.now)
known c =
    let g = c.args in
    let i = c.loop-i.i in
    let d = length g.p.now in
    let e : i * d + d - i * d ≡ d = omega arith in
    let k = row-end i g.n d c.loop-i-test.true in
    let h : d ≤ length (drop (i * d) g.x.now) = omega (arith, length-drop {A = Float}) in
    c.matern52.ensures ∙ rw e (similar g.p.now (row_of g.x.now d i) g.lengthscales.now (sym (length-take-le d (drop (i * d) g.x.now) h)) c.requires.2)

pub unwrap-requires : goal.unwrap-requires
unwrap-requires c = rw (known (goal.at.unwrap-requires c).After-matern52)

pub loop-i-preserved : goal.loop-i-preserved
loop-i-preserved c =
    let l = c.loop-i in
    let g = c.args in
    let k = known (goal.at.loop-i-preserved c).After-matern52 in
    let e : c.unwrap.result ≡ similarity_of g.p.now (row_of g.x.now (length g.p.now) l.i) g.lengthscales.now = cc in
    rw (e, l.invariant, add-one l.i) (grown-set 100 (λ xs i. similarity_of g.p.now (row_of g.x.now (length g.p.now) i) g.lengthscales.now) l.i (omega arith))
