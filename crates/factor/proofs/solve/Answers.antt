-- `factor::solve` meets its contract: forward, then backward in the same array. Assumes nothing.
use mathlib.Core.Path.{◌≡◌, sym, ap, ◌∙◌}
use native.Mathlib.Omega.{arith}
use borrow.Author.Rules.{rules}
use borrow.Author.Tests.{le-leb, lt-leb}
use lib.ListN.{take}
use Rattle.arith.specs.Lists.{padded}
use Rattle.arith.proofs.Lists.{grown-padded-take}
use Rattle.factor.specs.Solve.{forward_at, forward_of, solution_of, solve_of}
use Rattle.factor.proofs.solve.Goals as goal
use Rattle.factor.proofs.solve.Goals.{After-forward-x}

pub returns-then-n-gt100 : goal.returns-then-n-gt100
unfolding solve_of
returns-then-n-gt100 c = rw (lt-leb c.args.n 100 (omega arith))

-- the elements that forward answers
front : (c : After-forward-x) → take c.args.n c.forward-x.result ≡ forward_of c.args.l.now c.args.b.now c.args.n
front c = ap (take c.args.n) c.forward-x.ensures ∙ grown-padded-take 100 (forward_at c.args.l.now c.args.b.now) c.args.n

pub backward-requires : goal.backward-requires
backward-requires c = (search rules, c.forward-x.ensures ∙ ap (padded 100) (sym (front (goal.at.backward-requires c).After-forward-x)))

pub returns : goal.returns
unfolding solve_of solution_of
returns c = rw (c.backward.ensures, le-leb c.args.n 100 (omega arith), front (goal.at.returns c).After-forward-x)
