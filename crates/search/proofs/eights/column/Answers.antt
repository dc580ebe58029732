-- `search::eights::column` meets its contract: before each turn the arrays hold the p draws passed. Assumes nothing.
use mathlib.Core.Path.{◌≡◌, refl, ◌∙◌}
use native.Mathlib.Numerals.{add-one}
use native.Mathlib.Omega.{arith}
use lib.ListN.{get_or}
use lib.Ieee.{binary64, of_bits}
use Rattle.std.specs.Prelude.{Ok}
use Rattle.arith.specs.Lists.{grown}
use Rattle.arith.proofs.Lists.{grown-set, grown-filled-set, eight-filled}
use Rattle.rng_util.specs.Draws.{unit_of}
use Rattle.rng_util.specs.Generator.{moved_of}
use Rattle.rng_util.proofs.Nonzero.{unit_after, unit-drawn}
use Rattle.search.proofs.eights.column.Goals as goal
use Rattle.search.proofs.eights.column.Goals.{After-unit_float}

drawn : (c : After-unit_float) → c.unit_float.result ≡ Ok (unit_after 0 (get_or c.args.words.now c.loop-p.p 0))
unfolding moved_of
drawn c = c.unit_float.ensures ∙ unit-drawn 0 (get_or c.args.words.now c.loop-p.p 0) (c.requires c.loop-p.p (omega arith))

pub unwrap-u-requires : goal.unwrap-u-requires
unwrap-u-requires c = rw (drawn (goal.at.unwrap-u-requires c).After-unit_float)

pub loop-p-init : goal.loop-p-init
unfolding grown of_bits
loop-p-init c = (refl, refl)

pub loop-p-preserved : goal.loop-p-preserved
loop-p-preserved c =
    let l = c.loop-p in
    let e : c.unwrap-u.result ≡ unit_after 0 (get_or c.args.words.now l.p 0) = cc (drawn (goal.at.loop-p-preserved c).After-unit_float) in
    (rw (e, l.invariant.0, add-one l.p) (grown-set 8 _ l.p (omega arith)), rw (e, l.invariant.1, add-one l.p) (grown-filled-set 0 8 _ l.p (omega arith)))

pub returns : goal.returns
returns c =
    let l = c.loop-p in
    let w = c.args.words.now in
    let e : l.p ≡ 8 = omega arith in
    rw (l.invariant.0, l.invariant.1, eight-filled (of_bits binary64 0) (λ p. unit_of (moved_of 1 (get_or w p 0))) l.p e, eight-filled 0 (λ p. moved_of 1 (get_or w p 0)) l.p e)
