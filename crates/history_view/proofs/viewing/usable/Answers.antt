-- `history_view::viewing::usable` meets its contract, by the law.
use Rattle.history_view.proofs.Usable.{usable}
use Rattle.history_view.proofs.viewing.usable.Goals as goal

pub returns : goal.returns
returns c = usable
