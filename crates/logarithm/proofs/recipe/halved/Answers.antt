use mathlib.Core.Path.{◌∙◌}
use lib.Ieee.{of_int, of_bits}
use Rattle.logarithm.specs.Ln.{halved_of}
use Rattle.logarithm.proofs.recipe.halved.Goals as goal

pub returns-then-m : goal.returns-then-m
unfolding halved_of of_int of_bits
returns-then-m c = c.series.ensures ∙ rw c.if-m.true

pub returns-else-m : goal.returns-else-m
unfolding halved_of of_int of_bits
returns-else-m c = c.series-else-m.ensures ∙ rw c.if-m.false
