-- `history_rows::tests::Recent::check` meets its contract. Assumes nothing.
use Rattle.std.proofs.Common.{◌≡◌, ℕ, List, not, take, arith, rules, tests, refl, sym, ◌∙◌}
use Rattle.std.specs.List.{list_all, enumerate_from}
use Rattle.std.proofs.lemmas.Iterator.Search.{all_from_yields_List}
use Rattle.arith.specs.Lists.{every}
use Rattle.arith.proofs.Chunks.{YieldsList-from_chunks_exact}
use Rattle.slots.specs.Slot.{slot_ok, same_id}
use Rattle.history_rows.specs.Chunks.{slots_in}
use Rattle.history_rows.specs.First.{like_first, row_like_first}
use Rattle.history_rows.specs.Rows.{width_of, row_count, row_at}
use Rattle.history_rows.specs.Tests.{row_ok, slots_ok, ids_once, rows_agreeing, recent_tests}
use Rattle.history_rows.proofs.First.{likes-are-pairs}
use Rattle.history_rows.proofs.Parts.{rows_all, slots_all, ids_same}
use Rattle.history_rows.proofs.tests.Recent.check.Goals as goal
use Rattle.history_rows.proofs.tests.Recent.check.Goals.{After-all, After-all-2, After-all-3, After-all-4}

-- what each test says of the rows

states : (c : After-all) → let n = c.args.self.now.slots in let r = c.args.self.now.words.now in let m = row_count n r in
    c.all.result ≡ every m (λ i. row_ok (row_at n r i))
states c =
    let n = c.args.self.now.slots in
    let r = c.args.self.now.words.now in
    all_from_yields_List row_ok c.all.new.self _ c.all.result c.all.ensures.ran
    (YieldsList-from_chunks_exact (width_of n) r (omega arith) c.rows.ensures.size c.rows.ensures.rest) (λ x b q k. search (rules, tests))
    ∙ rows_all row_ok row_ok n r (λ row e. refl)

slots : (c : After-all-2) → let n = c.args.self.now.slots in let r = c.args.self.now.words.now in let m = row_count n r in
    c.all-2.result ≡ every m (λ i. slots_ok n (row_at n r i))
slots c =
    let n = c.args.self.now.slots in
    let r = c.args.self.now.words.now in
    all_from_yields_List (λ (row : List ℕ). list_all slot_ok (slots_in row)) c.all-2.new.self _ c.all-2.result c.all-2.ensures.ran
    (YieldsList-from_chunks_exact (width_of n) r (omega arith) c.rows-2.ensures.size c.rows-2.ensures.rest) (λ x b q k. search (rules, tests))
    ∙ rows_all (λ row. list_all slot_ok (slots_in row)) (slots_ok n) n r (λ row e. unfold slots_ok in slots_all slot_ok n row e)

ids : (c : After-all-3) → let n = c.args.self.now.slots in let r = c.args.self.now.words.now in let m = row_count n r in
    c.all-3.result ≡ every m (λ i. ids_once n (row_at n r i))
ids c =
    let n = c.args.self.now.slots in
    let r = c.args.self.now.words.now in
    all_from_yields_List (λ (row : List ℕ). list_all (λ (p : ℕ × List ℕ). list_all (λ (b : List ℕ). not (same_id b p.1)) (take p.0 (slots_in row))) (enumerate_from 0 (slots_in row))) c.all-3.new.self _ c.all-3.result c.all-3.ensures.ran
    (YieldsList-from_chunks_exact (width_of n) r (omega arith) c.rows-3.ensures.size c.rows-3.ensures.rest) (λ x b q k. search (rules, tests))
    ∙ rows_all (λ (row : List ℕ). list_all (λ (p : ℕ × List ℕ). list_all (λ (b : List ℕ). not (same_id b p.1)) (take p.0 (slots_in row))) (enumerate_from 0 (slots_in row))) (ids_once n) n r (λ row e. ids_same n row e)

pairs : (c : After-all-4) → let n = c.args.self.now.slots in let r = c.args.self.now.words.now in let m = row_count n r in
    c.all-4.result ≡ every m (λ i. every m (λ j. rows_agreeing n (row_at n r i) (row_at n r j)))
pairs c =
    let n = c.args.self.now.slots in
    let r = c.args.self.now.words.now in
    all_from_yields_List (λ (row : List ℕ). list_all (like_first n (row_count n r) r) (slots_in row)) c.all-4.new.self _ c.all-4.result c.all-4.ensures.ran
    (YieldsList-from_chunks_exact (width_of n) r (omega arith) c.rows-4.ensures.size c.rows-4.ensures.rest) (λ x b q k. search (rules, tests))
    ∙ rows_all (λ (row : List ℕ). list_all (like_first n (row_count n r) r) (slots_in row)) (row_like_first n (row_count n r) r) n r (λ row e. unfold row_like_first in slots_all (like_first n (row_count n r) r) n row e)
    ∙ likes-are-pairs n (row_count n r) r

pub returns-then-not-all : goal.returns-then-not-all
unfolding recent_tests
returns-then-not-all c = rw (sym (states (goal.at.returns-then-not-all c).After-all), c.if-not-all.true)

pub returns-then-not-all-2 : goal.returns-then-not-all-2
unfolding recent_tests
returns-then-not-all-2 c = rw (sym (states (goal.at.returns-then-not-all-2 c).After-all), c.if-not-all.false, sym (slots (goal.at.returns-then-not-all-2 c).After-all-2), c.if-not-all-2.true)

pub returns-then-not-all-3 : goal.returns-then-not-all-3
unfolding recent_tests
returns-then-not-all-3 c = rw (sym (states (goal.at.returns-then-not-all-3 c).After-all), c.if-not-all.false, sym (slots (goal.at.returns-then-not-all-3 c).After-all-2), c.if-not-all-2.false, sym (ids (goal.at.returns-then-not-all-3 c).After-all-3), c.if-not-all-3.true)

pub returns-then-not-all-4 : goal.returns-then-not-all-4
unfolding recent_tests
returns-then-not-all-4 c = rw (sym (states (goal.at.returns-then-not-all-4 c).After-all), c.if-not-all.false, sym (slots (goal.at.returns-then-not-all-4 c).After-all-2), c.if-not-all-2.false, sym (ids (goal.at.returns-then-not-all-4 c).After-all-3), c.if-not-all-3.false, sym (pairs (goal.at.returns-then-not-all-4 c).After-all-4), c.if-not-all-4.true)

pub returns : goal.returns
unfolding recent_tests
returns c = rw (sym (states (goal.at.returns c).After-all), c.if-not-all.false, sym (slots (goal.at.returns c).After-all-2), c.if-not-all-2.false, sym (ids (goal.at.returns c).After-all-3), c.if-not-all-3.false, sym (pairs (goal.at.returns c).After-all-4), c.if-not-all-4.false)
