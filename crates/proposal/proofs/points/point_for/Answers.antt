-- `proposal::points::point_for` meets its contract: the search takes a model of training data. Assumes nothing.
use mathlib.Core.Path.{sym, ◌∙◌}
use native.Mathlib.Nat.{mul-le-mul}
use native.Mathlib.Omega.{arith}
use lib.Seq.{length-take-le}
use Rattle.std.specs.Prelude.{◌*◌, Ok, Err}
use Rattle.proposal.proofs.Draws.{point-is}
use Rattle.proposal.proofs.Moving.{searches}
use Rattle.proposal.proofs.points.point_for.Goals as goal

pub overflow_mul-rows : goal.overflow_mul-rows
overflow_mul-rows c =
    let l = mul-le-mul c.requires.0 c.requires.1 in
    omega arith

pub slice_bounds-fit_gp-end : goal.slice_bounds-fit_gp-end
slice_bounds-fit_gp-end c =
    let l = mul-le-mul c.requires.0 c.requires.1 in
    sym (length-take-le (c.args.t.n * c.args.t.d) c.args.t.x (omega arith))

pub search_point-requires : goal.search_point-requires
search_point-requires c =
    let a = c.args in
    (c.requires.1, c.requires.4, searches a.t a.noise_variance a.word c.in-Ok.m (sym c.in-Ok.ensures) (omega arith))

pub returns-in-Ok : goal.returns-in-Ok
returns-in-Ok c =
    let a = c.args in
    c.search_point.ensures ∙ sym (point-is a.t a.noise_variance a.n_candidates a.word (Ok c.in-Ok.m) (sym c.in-Ok.ensures))

pub returns-in-Err : goal.returns-in-Err
returns-in-Err c =
    let a = c.args in
    c.unit_point.ensures ∙ sym (point-is a.t a.noise_variance a.n_candidates a.word (Err c.in-Err.field-0) (sym c.in-Err.ensures))
