-- `gp_model::fitting::copied` meets its contract: behind the rows the array is as it was. Assumes nothing.
use Rattle.std.proofs.lemmas.List.{drop-replicate}
use Rattle.gp_model.proofs.fitting.copied.Goals as goal

pub returns : goal.returns
returns c = rw (c.copy_from_slice.ensures.after, drop-replicate)
