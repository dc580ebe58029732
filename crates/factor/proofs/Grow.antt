-- The forward solution in an array: the next element is written behind those before it. Assumes nothing.
use mathlib.Core.Path.{◌≡◌, refl, ap, ◌∙◌}
use mathlib.Core.List.{List}
use Prim.Native.Nat.{ℕ, suc, ◌<◌}
use lib.ListN.{get_or, set}
use lib.Ieee.{Float, nan, binary64, div}
use Rattle.arith.specs.Lists.{padded}
use Rattle.arith.proofs.Lists.{grown-set, grown-padded-at}
use Rattle.factor.specs.Triangle.{entry, less_of}
use Rattle.factor.specs.Solve.{forward_at, forward_of}
use Rattle.factor.proofs.Triangle.{less-same}

-- element i, from those before it in the array z
pub forward-next : (l b z : List Float) (i : ℕ) (v : Float) → i < 100 → z ≡ padded 100 (forward_of l b i) → v ≡ forward_at l b z i → set z i v ≡ padded 100 (forward_of l b (suc i))
forward-next l b z i v h hz hv =
    let same : less_of i (entry l i) (λ k. get_or (padded 100 (forward_of l b i)) k nan) (get_or b i nan) ≡ less_of i (entry l i) (λ k. get_or (forward_of l b i) k nan) (get_or b i nan) =
    less-same i (entry l i) (λ k. get_or (padded 100 (forward_of l b i)) k nan) (entry l i) (λ k. get_or (forward_of l b i) k nan) (get_or b i nan) (λ k g. refl) (λ k g. grown-padded-at 100 (forward_at l b) i k g) in
    rw (hv, hz) (ap (λ (s : Float). set (padded 100 (forward_of l b i)) i (div binary64 s (entry l i i))) same ∙ grown-set 100 (forward_at l b) i h)
