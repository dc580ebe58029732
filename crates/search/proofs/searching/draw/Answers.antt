-- `search::searching::draw` meets its contract: before each turn the array holds the j words drawn as unit floats. Assumes nothing.
use Prim.Native.Nat.{suc}
use mathlib.Core.Path.{◌≡◌, refl, ap, ◌∙◌}
use native.Mathlib.Numerals.{add-one}
use native.Mathlib.Omega.{arith}
use lib.Ieee.{of_bits}
use Rattle.std.specs.Prelude.{Ok}
use Rattle.arith.specs.Lists.{grown}
use Rattle.arith.proofs.Lists.{grown-set}
use Rattle.rng_util.specs.Draws.{unit_of, unit_draw_of}
use Rattle.rng_util.specs.Generator.{moved_of}
use Rattle.rng_util.proofs.Nonzero.{unit_after, unit-drawn}
use borrow.Author.Rules.{rules}
use Rattle.search.proofs.searching.draw.Goals as goal
use Rattle.search.proofs.searching.draw.Goals.{After-unit_float}

drawn : (c : After-unit_float) → c.unit_float.result ≡ Ok (unit_after c.loop-j.j c.args.word)
drawn c = c.unit_float.ensures ∙ ap unit_draw_of c.loop-j.invariant.1 ∙ unit-drawn c.loop-j.j c.args.word (c.requires.0, search rules)

pub unwrap-u-requires : goal.unwrap-u-requires
unwrap-u-requires c = rw (drawn (goal.at.unwrap-u-requires c).After-unit_float)

pub loop-j-init : goal.loop-j-init
unfolding grown moved_of of_bits
loop-j-init c = (refl, refl)

pub loop-j-preserved : goal.loop-j-preserved
loop-j-preserved c =
    let l = c.loop-j in
    let w = c.args.word in
    let e : c.unwrap-u.result ≡ unit_after l.j w = cc (drawn (goal.at.loop-j-preserved c).After-unit_float) in
    (rw (e, l.invariant.0, add-one l.j) (grown-set 20 (λ xs j. unit_of (moved_of (suc j) w)) l.j (omega arith)), rw (e, add-one l.j))
