-- `history::building::build_training_data` meets its contract. Assumes nothing.
use mathlib.Core.Path.{◌≡◌, refl, sym, ap, ◌∙◌}
use Rattle.std.specs.Prelude.{None, Ok}
use Rattle.std.proofs.lemmas.Result.{err_from_is_err_and}
use Rattle.arith.specs.Lists.{filled}
use Rattle.history_rows.specs.Rows.{row_at, recent_of}
use Rattle.history_rows.proofs.Recent.{recent-few, recent-part, recent-whole}
use Rattle.param_mapping.specs.Mapping.{mapped_of, asked_of}
use Rattle.param_mapping.proofs.Opened.{Recent, recent, mapping-accepted, mapping-refused}
use Rattle.history.specs.Training.{recent_training, training_of}
use Rattle.history.proofs.FromArray.{training-is}
use Rattle.history.proofs.building.build_training_data.Goals as goal
use Rattle.history.proofs.building.build_training_data.Goals.{After-recent_part-recent}

-- the mapping's answer
accepted : (c : After-recent_part-recent) → let a = c.args in
    (asked_of a.slots a.dims.list a.dims.count a.h.now ≡ Ok tt) × (c.in_ok-mapping.mapping ≡ filled None 20 (mapped_of a.slots a.dims.list a.dims.count (row_at a.slots (recent_of a.slots a.h.now) 0)))
accepted c =
    let a = c.args in
    mapping-accepted a.slots a.dims.list a.dims.count a.h.now c.in_ok-mapping.mapping (sym c.establish_param_mapping.ensures ∙ c.in_ok-mapping.was)

pub returns-in_err-mapping : goal.returns-in_err-mapping
unfolding training_of
returns-in_err-mapping c =
    let a = c.args in
    let p = err_from_is_err_and c.from_residual.result c.from_residual.ensures.1 in
    rw (p.1, p.2, mapping-refused a.slots a.dims.list a.dims.count a.h.now _ (sym c.establish_param_mapping.ensures ∙ c.in_err-mapping.was))

-- what is known of a history that is not refused, and of its recent rows
known : (c : After-recent_part-recent) → let a = c.args in Recent a.slots a.dims.count a.h.now c.recent_part-recent.result
known c =
    let a = c.args in
    recent a.slots a.dims.list a.dims.count a.h.now c.recent_part-recent.result (accepted c).0 c.recent_part-recent.ensures.is

pub invariant_of-rows : goal.invariant_of-rows
invariant_of-rows c =
    let k = known (goal.at.invariant_of-rows c).After-recent_part-recent in
    let a = c.args in
    rw (recent-part a.slots a.h.now c.recent_part-recent.result.start k.start, k.rows)
    (record { narrow = k.slots; few = recent-few a.slots a.h.now k.whole; whole = recent-whole a.slots a.h.now k.whole })

pub recent_training-requires : goal.recent_training-requires
recent_training-requires c =
    let k = known (goal.at.recent_training-requires c).After-recent_part-recent in
    let a = c.args in
    rw (recent-part a.slots a.h.now c.recent_part-recent.result.start k.start, k.rows)
    (k.few, refl, (accepted (goal.at.recent_training-requires c).After-recent_part-recent).1)

pub returns : goal.returns
returns c =
    let a = c.args in
    ap Ok (c.recent_training.ensures ∙ ap (recent_training a.slots a.dims.list a.dims.count) (recent-part a.slots a.h.now c.recent_part-recent.result.start (known (goal.at.returns c).After-recent_part-recent).start))
    ∙ sym (training-is a.slots a.dims.list a.dims.count a.h.now (accepted (goal.at.returns c).After-recent_part-recent).0)
