-- `rng_util::unit_float` meets its contract: the code's 2^52 is the definition's.
use lib.Ieee.{of_bits, of_int}
use Rattle.rng_util.specs.Draws.{unit_of, unit_draw_of}
use Rattle.rng_util.proofs.unit_float.Goals as goal

pub returns : goal.returns
unfolding unit_draw_of unit_of of_bits of_int
returns c = rw (c.with.ensures, ← c.next_word.ensures, c.in_ok-r.was)
