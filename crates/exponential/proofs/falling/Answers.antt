-- `exponential::falling` meets its contract. Assumes nothing.
use Rattle.exponential.specs.ExpParts.{falling_of}
use Rattle.exponential.proofs.falling.Goals as goal

pub returns : goal.returns
unfolding falling_of
returns c = rw (c.power_of_two.ensures, c.horner.ensures, c.reduced.ensures)
