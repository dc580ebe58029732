-- `search::eights::some_candidates` meets its contract: k candidates side by side are k one after the other. Assumes nothing.
use mathlib.Core.Path.{◌≡◌, ap}
use native.Mathlib.Omega.{arith}
use lib.ListN.{get_or}
use Rattle.search.specs.declared.Starts.{Starts}
use Rattle.search.specs.Lent.{model_of}
use Rattle.search.proofs.Beside.{starts-at, starts-words, some-advance}
use borrow.Author.Rules.{rules}
use Rattle.search.proofs.eights.some_candidates.Goals as goal

pub points-c-requires : goal.points-c-requires
points-c-requires c =
    (search rules, starts-words c.args.m.d c.args.s.word c.starts-drawn.result c.starts-drawn.ensures c.requires.0)

pub kept_each-best-requires : goal.kept_each-best-requires
kept_each-best-requires c =
    (search rules, starts-words c.args.m.d c.args.s.word c.starts-drawn.result c.starts-drawn.ensures c.requires.0, search rules)

pub returns-then-k-lt8 : goal.returns-then-k-lt8
returns-then-k-lt8 c =
    let g = c.args in
    some-advance (model_of g.m) g.s c.starts-drawn.result c.points-c.result c.scores-ei.result c.kept_each-best.result g.k (get_or c.starts-drawn.result.words g.k 0) c.requires.1 (starts-at g.m.d g.s.word c.starts-drawn.result c.starts-drawn.ensures g.k c.if-k-lt8.true) c.starts-drawn.ensures c.points-c.ensures c.scores-ei.ensures c.kept_each-best.ensures

pub returns : goal.returns
returns c =
    let g = c.args in
    let f : g.k ≡ 8 = omega arith in
    some-advance (model_of g.m) g.s c.starts-drawn.result c.points-c.result c.scores-ei.result c.kept_each-best.result g.k c.starts-drawn.result.next c.requires.1 (rw f (ap (λ (x : Starts). x.next) c.starts-drawn.ensures)) c.starts-drawn.ensures c.points-c.ensures c.scores-ei.ensures c.kept_each-best.ensures
