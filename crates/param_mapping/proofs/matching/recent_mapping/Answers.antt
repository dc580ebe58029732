-- `param_mapping::matching::recent_mapping` meets its contract. Assumes nothing.
use Prim.Native.Nat.{ℕ, ◌*◌}
use mathlib.Core.Path.{◌≡◌, sym, ap, ◌∙◌}
use native.Mathlib.Nat.{zero-mul}
use lib.ListN.{length}
use Rattle.history_rows.specs.Rows.{width_of}
use Rattle.param_mapping.proofs.MappedList.{mapped-none, no_row}
use Rattle.param_mapping.proofs.matching.recent_mapping.Goals as goal

pub returns-then-m-eq0 : goal.returns-then-m-eq0
returns-then-m-eq0 c =
    let e : length c.args.r.now ≡ 0 = c.requires.2 ∙ ap (λ (m : ℕ). m * width_of c.args.n) c.if-m-eq0.true ∙ zero-mul (width_of c.args.n) in
    sym (rw (no_row c.args.n c.args.r.now e) (mapped-none c.args.n c.args.dims.now.list c.args.dims.now.count c.requires.1))
