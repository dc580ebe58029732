-- `search::eights::kept_each` meets its contract: before each turn s has seen the p points passed. Assumes nothing.
use mathlib.Core.Path.{refl}
use native.Mathlib.Numerals.{add-one}
use native.Mathlib.Omega.{arith}
use Rattle.search.specs.Eights.{kept_each_of}
use borrow.Author.Rules.{rules}
use Rattle.search.proofs.eights.kept_each.Goals as goal

pub loop-p-init : goal.loop-p-init
unfolding kept_each_of
loop-p-init c = (refl)

pub kept-s-requires : goal.kept-s-requires
kept-s-requires c = ((c.requires.1 c.loop-p.p (omega arith)).0, search rules)

pub loop-p-preserved : goal.loop-p-preserved
unfolding kept_each_of
loop-p-preserved c = let l = c.loop-p in rw (c.kept-s.ensures, l.invariant, add-one l.p)
