-- `encoding::bounds::pair` meets its contract, by the first refusal. Assumes nothing.
use Rattle.std.proofs.lemmas.Result.{err_from_is_err_and}
use Rattle.encoding.proofs.bounds.pair.Goals as goal

pub returns : goal.returns
returns c = rw (c.in_ok-lo.was, c.in_ok-hi.was)

pub returns-in_err-lo : goal.returns-in_err-lo
returns-in_err-lo c =
    let p = err_from_is_err_and c.from_residual.result c.from_residual.ensures.1 in
    rw (p.1, p.2, c.in_err-lo.was)

pub returns-in_err-hi : goal.returns-in_err-hi
returns-in_err-hi c =
    let p = err_from_is_err_and c.from_residual-in_err-hi.result c.from_residual-in_err-hi.ensures.1 in
    rw (p.1, p.2, c.in_ok-lo.was, c.in_err-hi.was)
