-- `history_rows::rows::ids_once` meets its contract. Assumes nothing.
use Rattle.std.proofs.Common.{ℕ, List, not, take, drop, arith, rules, tests}
use Rattle.std.proofs.lemmas.Iterator.Search.{all_from_yields_List}
use Rattle.arith.proofs.Chunks.{YieldsList-from_chunks_exact}
use Rattle.std.proofs.lemmas.Iterator.Consumers.{YieldsList-at, YieldsList-from_enumerate}
use Rattle.std.specs.List.{list_all}
use Rattle.slots.specs.Slot.{same_id}
use Rattle.history_rows.specs.Chunks.{slots_in}
use Rattle.history_rows.proofs.rows.ids_once.Goals as goal

pub returns : goal.returns
returns c = all_from_yields_List (λ (p : ℕ × List ℕ). list_all (λ (b : List ℕ). not (same_id b p.1)) (take p.0 (slots_in c.args.row.now))) c.all.new.self _ c.all.result c.all.ensures.ran
    (YieldsList-from_enumerate (YieldsList-at c.enumerate.ensures.source (YieldsList-from_chunks_exact 8 (drop 3 c.args.row.now) (omega arith) c.each_slot.ensures.size c.each_slot.ensures.rest)) c.enumerate.ensures.count) (λ x b q k. search (rules, tests))
