-- `exponential::nearest` meets its contract: twice t is exact, and its whole part, with one added, halved, is the nearest whole number (`Nearest.antt`). Assumes nothing.
use Rattle.std.proofs.Common.{◌≡◌, ℕ, ◌+◌, ◌/◌, ap, ◌∙◌, arith}
use lib.Ieee.{Float, binary64, add}
use Rattle.arith.proofs.Nearest.{floor_of, floor-small, nearest-floor, cut, range, twice-within}
use Rattle.arith.proofs.Tests.{taken}
use Rattle.exponential.proofs.nearest.Goals as goal
use Rattle.exponential.proofs.nearest.Goals.{After-truncating_f64_to_u64}

abbrev two : Float → Float
two t = add binary64 t t

pub truncating_f64_to_u64-requires : goal.truncating_f64_to_u64-requires
truncating_f64_to_u64-requires c = rw c.abs.ensures (let p = range (two c.args.t) (twice-within c.args.t c.requires) in record { lower_bound = p.0; upper_bound = p.1 })

whole : (c : After-truncating_f64_to_u64) → c.truncating_f64_to_u64.result ≡ floor_of (two c.args.t)
whole c = c.truncating_f64_to_u64.ensures ∙ rw c.abs.ensures (cut (two c.args.t) (twice-within c.args.t c.requires))

pub overflow_add-result : goal.overflow_add-result
overflow_add-result c = let w = whole (goal.at.overflow_add-result c).After-truncating_f64_to_u64 in let l = floor-small (two c.args.t) (twice-within c.args.t c.requires) in omega arith

pub returns : goal.returns
returns c = ap (λ (n : ℕ). (n + 1) / 2) (whole (goal.at.returns c).After-truncating_f64_to_u64) ∙ nearest-floor c.args.t (taken c.well_formed.0.1) c.requires
