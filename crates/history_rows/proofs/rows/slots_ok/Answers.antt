-- `history_rows::rows::slots_ok` meets its contract. Assumes nothing.
use Rattle.std.proofs.Common.{drop, arith, rules, tests}
use Rattle.std.proofs.lemmas.Iterator.Search.{all_from_yields_List}
use Rattle.arith.proofs.Chunks.{YieldsList-from_chunks_exact}
use Rattle.slots.specs.Slot.{slot_ok}
use Rattle.history_rows.proofs.rows.slots_ok.Goals as goal

pub returns : goal.returns
returns c = all_from_yields_List slot_ok c.all.new.self _ c.all.result c.all.ensures.ran (YieldsList-from_chunks_exact 8 (drop 3 c.args.row.now) (omega arith) c.each_slot.ensures.size c.each_slot.ensures.rest) (λ x b q k. search (rules, tests))
