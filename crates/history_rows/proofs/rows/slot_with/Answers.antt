-- `history_rows::rows::slot_with` meets its contract. Assumes nothing.
use Rattle.std.proofs.Common.{drop, arith, rules, tests}
use Rattle.std.proofs.lemmas.Iterator.Search.{find_from_yields_List}
use Rattle.arith.proofs.Chunks.{YieldsList-from_chunks_exact}
use Rattle.slots.specs.Slot.{has_id}
use Rattle.history_rows.proofs.rows.slot_with.Goals as goal

pub returns : goal.returns
returns c = find_from_yields_List (has_id c.args.id) c.find.new.self _ c.find.result c.find.ensures.ran (YieldsList-from_chunks_exact 8 (drop 3 c.args.row.now) (omega arith) c.each_slot.ensures.size c.each_slot.ensures.rest) (λ x b q k. search (rules, tests))
