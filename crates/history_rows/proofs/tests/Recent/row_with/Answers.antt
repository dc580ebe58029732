-- `history_rows::tests::Recent::row_with` meets its contract. Assumes nothing.
use Rattle.std.proofs.Common.{List, ℕ, arith, rules, tests}
use Rattle.std.specs.List.{list_any}
use Rattle.std.proofs.lemmas.Iterator.Search.{find_from_yields_List}
use Rattle.arith.proofs.Chunks.{YieldsList-from_chunks_exact}
use Rattle.slots.specs.Slot.{has_id}
use Rattle.history_rows.specs.Chunks.{slots_in}
use Rattle.history_rows.specs.Rows.{width_of}
use Rattle.history_rows.proofs.tests.Recent.row_with.Goals as goal

pub returns : goal.returns
returns c =
    let s = c.args.self.now in
    find_from_yields_List (λ (row : List ℕ). list_any (has_id c.args.id) (slots_in row)) c.find.new.self _ c.find.result c.find.ensures.ran
    (YieldsList-from_chunks_exact (width_of s.slots) s.words.now (omega arith) c.rows.ensures.size c.rows.ensures.rest) (λ x b q k. search (rules, tests))
