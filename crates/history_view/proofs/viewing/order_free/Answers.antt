-- `history_view::viewing::order_free` meets its contract, by the law.
use Rattle.history_view.proofs.Order.{order-free}
use Rattle.history_view.proofs.viewing.order_free.Goals as goal

pub returns : goal.returns
returns c = order-free
