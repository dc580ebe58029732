-- `common::decode::from_internal` meets its contract: what is inside decodes with no saturation (`Domain.antt`). Assumes nothing.
use Rattle.refusal.specs.declared.Refusal.TheVariants.{OutOfDomain}
use Rattle.std.specs.Prelude.{Err}
use mathlib.Core.Path.{◌≡◌, ◌∙◌, sym, ap}
use mathlib.Core.Bool.{Bool, true, false, cond}
use lib.Dec.{T}
use lib.Ieee.{Float}
use Rattle.arith.proofs.Tests.{taken}
use Rattle.distribution.specs.declared.Distribution.{Distribution}
use Rattle.distribution.specs.Shape.{shape_of}
use Rattle.encoding.specs.Bounds.{bounds_of, ends_of}
use Rattle.common.specs.Decode.{inside}
use Rattle.common.proofs.Domain.{decodable}
use Rattle.common.proofs.decode.from_internal.Goals as goal
use Rattle.common.proofs.decode.from_internal.Goals.{After-is_inside}

tested : (c : After-is_inside) → inside (bounds_of c.args.d) c.args.x ≡ c.is_inside.result
tested c = sym (c.is_inside.ensures ∙ ap (λ b. inside b c.args.x) c.internal_bounds.ensures)

-- a malformed distribution has no inside
shaped : (x : Float) (d : Distribution) → T (inside (bounds_of d) x) → T (shape_of d)
unfolding bounds_of
shaped x d h = go (shape_of d) h
  where
    go : (b : Bool) → T (inside (cond b (ends_of d) (Err OutOfDomain)) x) → T b
    go true t = tt
    go false t = t

pub decoded-requires : goal.decoded-requires
decoded-requires c = let i = taken (tested (goal.at.decoded-requires c).After-is_inside ∙ c.if-not-is_inside.false) in decodable c.args.x c.args.d (shaped c.args.x c.args.d i) i
