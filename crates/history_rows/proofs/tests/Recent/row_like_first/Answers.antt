-- `history_rows::tests::Recent::row_like_first` meets its contract. Assumes nothing.
use Rattle.std.proofs.Common.{drop, arith, rules, tests}
use Rattle.std.proofs.lemmas.Iterator.Search.{all_from_yields_List}
use Rattle.arith.proofs.Chunks.{YieldsList-from_chunks_exact}
use Rattle.history_rows.specs.First.{like_first}
use Rattle.history_rows.specs.Rows.{row_count}
use Rattle.history_rows.proofs.tests.Recent.row_like_first.Goals as goal

pub returns : goal.returns
returns c =
    let n = c.args.self.now.slots in
    let r = c.args.self.now.words.now in
    all_from_yields_List (like_first n (row_count n r) r) c.all.new.self _ c.all.result c.all.ensures.ran (YieldsList-from_chunks_exact 8 (drop 3 c.args.row.now) (omega arith) c.each_slot.ensures.size c.each_slot.ensures.rest) (λ x b q k. search (rules, tests))
