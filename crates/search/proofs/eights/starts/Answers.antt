-- `search::eights::starts` meets its contract: before each turn the array holds the words before the p points passed. Assumes nothing.
use Prim.Native.Nat.{◌*◌}
use mathlib.Core.Path.{◌≡◌, refl}
use native.Mathlib.Numerals.{add-one}
use native.Mathlib.Omega.{arith}
use Rattle.arith.specs.Lists.{grown}
use Rattle.arith.proofs.Lists.{grown-filled-set, eight-filled}
use Rattle.rng_util.specs.Generator.{moved_of}
use Rattle.rng_util.proofs.Nonzero.{moved-nonzero}
use Rattle.search.proofs.Beside.{word_after}
use borrow.Author.Rules.{rules}
use Rattle.search.proofs.eights.starts.Goals as goal

pub loop-p-init : goal.loop-p-init
unfolding grown moved_of
loop-p-init c = let e : 0 * c.args.d ≡ 0 = omega arith in (refl, rw e)

pub draw-drawn-requires : goal.draw-drawn-requires
draw-drawn-requires c = (rw c.loop-p.invariant.1 (moved-nonzero (c.loop-p.p * c.args.d) c.args.word c.requires.0).0, search rules)

pub loop-p-preserved : goal.loop-p-preserved
loop-p-preserved c =
    let l = c.loop-p in
    let g = c.args in (
      rw (l.invariant.0, l.invariant.1, add-one l.p) (grown-filled-set 0 8 (λ xs p. moved_of (p * g.d) g.word) l.p (omega arith)),
      rw (c.draw-drawn.ensures, l.invariant.1, add-one l.p) (word_after l.p g.d g.word),
    )

pub returns : goal.returns
returns c =
    let l = c.loop-p in
    let g = c.args in
    let e : l.p ≡ 8 = omega arith in
    rw (l.invariant.0, l.invariant.1, eight-filled 0 (λ p. moved_of (p * g.d) g.word) l.p e, e)
