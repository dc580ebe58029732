-- `propose_lines::names::is_history` meets its contract. Assumes nothing.
use mathlib.Core.Path.{sym, ◌∙◌}
use Rattle.propose_lines.proofs.SlotNames.{history_left}
use Rattle.propose_lines.proofs.names.is_history.Goals as goal

pub returns-else-starts_with : goal.returns-else-starts_with
returns-else-starts_with c =
    c.if-starts_with.false ∙ sym (rw (sym c.starts_with.ensures.value, c.if-starts_with.false) at (history_left c.args.line.now c.args.n))
