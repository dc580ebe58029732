-- `acquisition::norm_pdf` meets its contract: exp is never refused here. Assumes nothing.
use mathlib.Core.Path.{refl, sym, ◌∙◌}
use lib.Ieee.{of_bits, neg}
use Rattle.acquisition.specs.Normal.{norm_pdf_of}
use Rattle.arith.proofs.Accepted.{accepted-value}
use Rattle.acquisition.proofs.Accepted.{density-accepted}
use Rattle.acquisition.proofs.norm_pdf.Goals as goal

pub unwrap-requires : goal.unwrap-requires
unfolding of_bits neg
unwrap-requires c = rw (c.exp.ensures ∙ accepted-value _ (density-accepted c.args.x)) refl

pub returns : goal.returns
unfolding norm_pdf_of of_bits neg
returns c = rw (sym c.exp.ensures, c.unwrap.ensures)
