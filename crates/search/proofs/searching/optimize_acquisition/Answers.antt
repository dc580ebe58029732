-- `search::searching::optimize_acquisition` meets its contract: an answer is what the search finds, and that it is the earliest maximum is proofs/Earliest. Assumes nothing.
use Prim.Native.Nat.{◌≤◌}
use mathlib.Core.Path.{◌≡◌, sym, ◌∙◌}
use native.Mathlib.Omega.{arith}
use lib.Ieee.{of_bits, neg, div}
use Rattle.gp_model.proofs.Table.{table-small}
use Rattle.search.specs.Search.{optimum_of, optimize_acquisition_of}
use Rattle.search.proofs.Domain.{search-counts}
use Rattle.search.proofs.Earliest.{search-earliest}
use borrow.Author.Rules.{rules}
use Rattle.search.proofs.searching.optimize_acquisition.Goals as goal
use Rattle.search.proofs.searching.optimize_acquisition.Goals.{Else-not-in_domain}

-- what the test says of the counts and of the word
counts : (c : Else-not-in_domain) → let m = c.args.m in (1 ≤ m.n) × (m.n ≤ 100) × (1 ≤ m.d) × (m.d ≤ 20) × (c.args.word ≡ 0 → ⊥)
counts c = search-counts c.args.m c.args.n_dims c.args.word (sym c.in_domain.ensures ∙ c.if-not-in_domain.false)

pub halves-best_x-requires : goal.halves-best_x-requires
halves-best_x-requires c = (counts (goal.at.halves-best_x-requires c).Else-not-in_domain).3

pub invariant_of-lent : goal.invariant_of-lent
invariant_of-lent c =
    let k = counts (goal.at.invariant_of-lent c).Else-not-in_domain in
    let small = table-small c.args.m.n c.args.m.d k.1 k.3 in
    record { fits = (k.1, k.3, omega arith, omega arith, omega arith) }

pub advance-best-requires : goal.advance-best-requires
advance-best-requires c =
    let z = (counts (goal.at.advance-best-requires c).Else-not-in_domain).4 in
    (omega arith, search rules)

pub returns-then-not-in_domain-clause-is : goal.returns-then-not-in_domain-clause-is
unfolding optimize_acquisition_of
returns-then-not-in_domain-clause-is c = rw (sym c.in_domain.ensures, c.if-not-in_domain.true)

pub returns-clause-is : goal.returns-clause-is
unfolding optimize_acquisition_of optimum_of div neg of_bits
returns-clause-is c = rw (c.advance-best.ensures, c.halves-best_x.ensures, sym c.in_domain.ensures, c.if-not-in_domain.false)

pub returns-clause-earliest : goal.returns-clause-earliest
returns-clause-earliest c found e = search-earliest c.args.m c.args.n_dims c.args.n_candidates c.args.word found (sym (returns-clause-is c) ∙ e)
