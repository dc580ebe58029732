-- `common::random::categorical_random` meets its contract: the number drawn is below the count. Assumes nothing.
use mathlib.Core.Path.{◌≡◌, sym, ap, ◌∙◌}
use Prim.Native.Nat.{◌-◌}
use native.Mathlib.Omega.{arith}
use lib.IntN.{ℤ, pos}
use mir.Syntax.{w64}
use mir.ValLaws.{to_z_pos}
use Rattle.std.specs.Prelude.{Ok}
use Rattle.rng_util.specs.declared.Draw.{Draw}
use Rattle.rng_util.specs.Draws.{whole_draw_of}
use Rattle.common.proofs.Steps.{UpTo, drawn-up-to, read-back}
use Rattle.common.proofs.random.categorical_random.Goals as goal
use Rattle.common.proofs.random.categorical_random.Goals.{After-whole_number}

up_to : (c : After-whole_number) (r : Draw ℤ) → c.whole_number.result ≡ Ok r → UpTo (c.args.«n_choices» - 1) r.value
up_to c r e = drawn-up-to c.args.w _ r (sym (c.whole_number.ensures ∙ ap (whole_draw_of c.args.w (pos 0)) (to_z_pos w64 (c.args.«n_choices» - 1) (let h = c.requires.1 in omega arith))) ∙ e)

pub overflow_cast-k : goal.overflow_cast-k
overflow_cast-k c =
    let u : UpTo (c.args.«n_choices» - 1) c.in_ok-r.r.value = up_to (goal.at.overflow_cast-k c).After-whole_number c.in_ok-r.r c.in_ok-r.was in
    let h = c.requires.1 in
    rw (read-back _ _ u (omega arith), u.is) (tt, record { fits = omega (arith, u.most) })
