-- What the test of a fit says of the counts. Assumes nothing.
use mathlib.Core.Path.{◌≡◌}
use mathlib.Core.Bool.{true}
use mathlib.Core.List.{List}
use Prim.Native.Nat.{ℕ, ◌*◌, ◌≤◌}
use borrow.Author.Tests.{leb-true, eqb-true}
use lib.ListN.{length}
use lib.Ieee.{Float}
use Rattle.arith.proofs.Tests.{both}
use Rattle.gp_model.specs.Fit.{fit_domain}

pub fit-counts : (x y : List Float) (d : ℕ) → fit_domain x y d ≡ true → (length y ≤ 100) × (d ≤ 20) × (length x ≡ length y * d)
unfolding fit_domain
fit-counts x y d h =
    let a = both _ _ h in
    let b = both _ _ a.0 in
    let c = both _ _ b.0 in
    let e = both _ _ c.0 in
    let f = both _ _ e.0 in
    (leb-true _ _ f.0, leb-true _ _ e.1, eqb-true _ _ c.1)
