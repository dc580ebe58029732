-- `history_view::viewing::generous` meets its contract, by the law.
use Rattle.history_view.proofs.Generous.{generous}
use Rattle.history_view.proofs.viewing.generous.Goals as goal

pub returns : goal.returns
returns c = generous
