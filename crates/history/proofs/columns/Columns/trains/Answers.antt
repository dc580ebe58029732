-- `history::columns::Columns::trains` meets its contract. Assumes nothing.
use Rattle.std.specs.Prelude.{None}
use Prim.Native.Nat.{ℕ, ◌<◌}
use mathlib.Core.Path.{◌∙◌}
use lib.ListN.{get_or}
use Rattle.std.proofs.Common.{refl, rules, tests}
use Rattle.std.proofs.lemmas.Iterator.{YieldsList-from_slice}
use Rattle.std.proofs.lemmas.List.{get_or_default}
use Rattle.std.proofs.lemmas.Iterator.Adapters.{serves_from_places}
use Rattle.std.proofs.lemmas.Iterator.Search.{all_from_yields_List}
use native.Mathlib.Omega.{arith}
use Rattle.arith.proofs.Passing.{all_every}
use Rattle.history.specs.Training.{covers_of, trains_of}
use Rattle.history.proofs.columns.Columns.trains.Goals as goal

pub all-requires-clause-callable : goal.all-requires-clause-callable
all-requires-clause-callable c =
    let s = c.args.self.now in
    serves_from_places (YieldsList-from_slice s.places.now cc) (λ x q r. search rules) (λ x k l e.
    let h : x.now < 20 = omega (arith, s.known k l, get_or_default s.places.now k x.now 0 l, e) in
    (λ w p a b f. omega arith, λ w p a b f. omega arith))

pub returns : goal.returns
unfolding trains_of
returns c =
    let row = c.args.row.now in
    let s = c.args.self.now in
    let test = λ (j : ℕ). covers_of row.slots row.words.now (get_or s.mapping.now j None) in
    all_from_yields_List test _ _ c.all.result c.all.ensures.ran (YieldsList-from_slice s.places.now cc) (λ x b q k. search (rules, tests))
    ∙ all_every test s.places.now 0 _ refl
