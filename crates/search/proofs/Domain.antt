-- What the tests of a search say of the counts and of the word. Assumes nothing.
use mathlib.Core.Path.{◌≡◌}
use mathlib.Core.Bool.{Bool, true, false, not}
use Prim.Native.Nat.{ℕ, ◌≤◌}
use borrow.Author.Tests.{eq-eqb}
use lib.Dec.{eqb}
use Rattle.arith.proofs.Tests.{both}
use Rattle.gp_model.specs.declared.Model.{Model}
use Rattle.prediction.proofs.Domain.{model-counts}
use Rattle.prediction.specs.Predict.{counts_fit}
use Rattle.search.specs.Search.{search_domain}

pub search-counts : (m : Model) (dims w : ℕ) → search_domain m dims w ≡ true → (1 ≤ m.n) × (m.n ≤ 100) × (1 ≤ m.d) × (m.d ≤ 20) × (w ≡ 0 → ⊥)
unfolding search_domain
search-counts m dims w h =
    let a = both _ (not (eqb w 0)) h in
    let k = model-counts m.n m.d (both (counts_fit m.n m.d) (eqb dims m.d) a.0).0 in
    (k.0, k.1, k.2, k.3, λ z. no (eqb w 0) a.1 (eq-eqb w 0 z))
  where
    no : (b : Bool) → not b ≡ true → b ≡ true → ⊥
    no true p q = cc
    no false p q = cc
