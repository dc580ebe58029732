-- `kernel::scaled_root` meets its contract. Assumes nothing.
use Rattle.kernel.specs.Matern.{scaled_root_of}
use Rattle.kernel.proofs.scaled_root.Goals as goal

pub returns : goal.returns
unfolding scaled_root_of
returns c = rw c.sqrt.ensures
