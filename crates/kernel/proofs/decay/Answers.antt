-- `kernel::decay` meets its contract, by exp's answer. Assumes nothing.
use mathlib.Core.Path.{sym}
use Rattle.std.proofs.lemmas.Result.{err_from_is_err_and}
use lib.Ieee.{of_bits, of_int, neg}
use Rattle.kernel.specs.Matern.{decay_of}
use Rattle.kernel.proofs.decay.Goals as goal

pub returns : goal.returns
unfolding decay_of of_bits of_int neg
returns c = rw (sym c.exp.ensures, c.in_ok-e.was)

pub returns-in_err-e : goal.returns-in_err-e
unfolding decay_of neg
returns-in_err-e c =
    let p = err_from_is_err_and c.from_residual.result c.from_residual.ensures.1 in
    rw (p.1, p.2, sym c.exp.ensures, c.in_err-e.was)
