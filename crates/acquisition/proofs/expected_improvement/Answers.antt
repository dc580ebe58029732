-- `acquisition::expected_improvement` meets its contract, by the deviation. Assumes nothing.
use mathlib.Core.Path.{sym}
use Rattle.acquisition.specs.Improvement.{expected_improvement_of}
use Rattle.acquisition.proofs.expected_improvement.Goals as goal

pub returns-then-std : goal.returns-then-std
unfolding expected_improvement_of
returns-then-std c = rw (c.if-std.true, c.positive_part.ensures)

pub returns : goal.returns
unfolding expected_improvement_of
returns c = rw (c.if-std.false, sym c.norm_cdf.ensures, sym c.norm_pdf.ensures, c.positive_part-2.ensures)
