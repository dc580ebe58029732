-- `history_rows::rows::id_is_new` meets its contract. Assumes nothing.
use Rattle.std.proofs.Common.{List, ℕ, not, drop, arith, rules, tests}
use Rattle.std.proofs.lemmas.Iterator.Search.{all_from_yields_List}
use Rattle.arith.proofs.Chunks.{YieldsList-from_chunks_exact}
use Rattle.std.proofs.lemmas.Iterator.{YieldsList-from_take}
use Rattle.std.proofs.lemmas.Iterator.Consumers.{YieldsList-at}
use Rattle.slots.specs.Slot.{same_id}
use Rattle.history_rows.proofs.rows.id_is_new.Goals as goal

pub returns : goal.returns
returns c =
    all_from_yields_List (λ (b : List ℕ). not (same_id b c.args.slot.now)) c.all.new.self _ c.all.result c.all.ensures.ran
    (YieldsList-from_take c.args.a (YieldsList-at c.take.ensures.source (YieldsList-from_chunks_exact 8 (drop 3 c.args.row.now) (omega arith) c.each_slot.ensures.size c.each_slot.ensures.rest)) c.take.ensures.count) (λ x b q k. search (rules, tests))
