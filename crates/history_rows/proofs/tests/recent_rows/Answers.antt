-- `history_rows::tests::recent_rows` meets its contract. Assumes nothing.
use Rattle.history_rows.proofs.Recent.{recent-part-rows}
use Rattle.history_rows.proofs.tests.recent_rows.Goals as goal

pub returns : goal.returns
returns c = recent-part-rows c.args.n c.args.h.now c.older-start.result c.older-start.ensures
