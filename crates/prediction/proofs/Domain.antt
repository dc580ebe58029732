-- What the test of a model's counts says. Assumes nothing.
use mathlib.Core.Path.{◌≡◌}
use mathlib.Core.Bool.{true}
use Prim.Native.Nat.{ℕ, ◌≤◌}
use borrow.Author.Tests.{leb-true}
use Rattle.arith.proofs.Tests.{both}
use Rattle.prediction.specs.Predict.{counts_fit}

pub model-counts : (n d : ℕ) → counts_fit n d ≡ true → (1 ≤ n) × (n ≤ 100) × (1 ≤ d) × (d ≤ 20)
unfolding counts_fit
model-counts n d h =
    let a = both _ _ h in
    let b = both _ _ a.0 in
    let c = both _ _ b.0 in
    (leb-true _ _ c.0, leb-true _ _ c.1, leb-true _ _ b.1, leb-true _ _ a.1)
