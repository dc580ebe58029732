-- `proposal::points::search_point` meets its contract: the search is answered. Assumes nothing.
use mathlib.Core.Path.{refl, sym, ◌∙◌}
use native.Mathlib.Nat.{mul-le-mul}
use native.Mathlib.Omega.{arith}
use Rattle.search.proofs.Earliest.{optimizes, optimized}
use Rattle.proposal.proofs.points.search_point.Goals as goal

pub overflow_mul-drawn : goal.overflow_mul-drawn
overflow_mul-drawn c =
    let l = mul-le-mul c.requires.1 c.requires.0 in
    omega arith

pub unwrap-next-requires : goal.unwrap-next-requires
unwrap-next-requires c =
    let a = c.args in
    rw (c.optimize_acquisition.ensures.is ∙ optimizes a.m a.d a.n_candidates a.word c.requires.2) refl

pub returns : goal.returns
returns c =
    let a = c.args in
    rw (optimized a.m a.d a.n_candidates a.word c.unwrap-next.result (sym c.optimize_acquisition.ensures.is ∙ c.unwrap-next.ensures))
