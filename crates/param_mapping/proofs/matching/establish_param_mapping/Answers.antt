-- `param_mapping::matching::establish_param_mapping` meets its contract. Assumes nothing.
use Prim.Native.Nat.{ℕ}
use mathlib.Core.Path.{◌≡◌, sym, ap, ◌∙◌}
use mathlib.Core.List.{List}
use Rattle.std.proofs.lemmas.Result.{err_from_is_err_and}
use Rattle.param_mapping.proofs.Opened.{Recent, recent}
use Rattle.history_rows.proofs.Recent.{recent-part, recent-whole}
use Rattle.arith.specs.Lists.{filled}
use Rattle.std.specs.Prelude.{None}
use Rattle.param_mapping.specs.Mapping.{mapped_of, mapping_of}
use Rattle.history_rows.specs.Rows.{row_at, recent_of}
use Rattle.param_mapping.proofs.matching.establish_param_mapping.Goals as goal
use Rattle.param_mapping.proofs.matching.establish_param_mapping.Goals.{After-recent_part-recent}

pub returns-in_err-check : goal.returns-in_err-check
unfolding mapping_of
returns-in_err-check c =
    let p = err_from_is_err_and c.from_residual.result c.from_residual.ensures.1 in
    rw (p.1, p.2, sym c.check.ensures, c.in_err-check.was)

-- what is known of a history that is not refused, and of its recent rows
known : (c : After-recent_part-recent) → let a = c.args in Recent a.slots a.dims.count a.h.now c.recent_part-recent.result
known c =
    let a = c.args in
    recent a.slots a.dims.list a.dims.count a.h.now c.recent_part-recent.result (sym c.check.ensures ∙ c.in_ok-check.was) c.recent_part-recent.ensures.is

pub recent_mapping-ids-requires : goal.recent_mapping-ids-requires
recent_mapping-ids-requires c =
    let k = known (goal.at.recent_mapping-ids-requires c).After-recent_part-recent in
    let a = c.args in
    rw (recent-part a.slots a.h.now c.recent_part-recent.result.start k.start, k.rows) (k.slots, k.few, recent-whole a.slots a.h.now k.whole)

pub returns : goal.returns
unfolding mapping_of
returns c =
    let a = c.args in
    let e : c.recent_mapping-ids.result ≡ filled None 20 (mapped_of a.slots a.dims.list a.dims.count (row_at a.slots (recent_of a.slots a.h.now) 0)) =
    c.recent_mapping-ids.ensures ∙ ap (λ (r : List ℕ). filled None 20 (mapped_of a.slots a.dims.list a.dims.count (row_at a.slots r 0))) (recent-part a.slots a.h.now c.recent_part-recent.result.start (known (goal.at.returns c).After-recent_part-recent).start) in
    rw (sym c.check.ensures, c.in_ok-check.was, e)
