-- `history_view::viewing::older_unread` meets its contract, by the law.
use Rattle.history_view.proofs.Order.{older-unread}
use Rattle.history_view.proofs.viewing.older_unread.Goals as goal

pub returns : goal.returns
returns c = older-unread
