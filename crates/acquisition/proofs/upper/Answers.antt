-- `acquisition::upper` meets its contract. Assumes nothing.
use mathlib.Core.Path.{sym}
use lib.Ieee.{of_bits, of_int}
use Rattle.acquisition.specs.Normal.{upper_of}
use Rattle.acquisition.proofs.upper.Goals as goal

pub returns : goal.returns
unfolding upper_of of_bits of_int
returns c = rw (sym c.norm_pdf.ensures, c.polynomial.ensures)
