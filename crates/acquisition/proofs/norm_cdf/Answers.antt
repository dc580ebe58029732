-- `acquisition::norm_cdf` meets its contract, by the tests. Assumes nothing.
use mathlib.Core.Path.{◌≡◌, sym}
use mathlib.Core.Bool.{true}
use lib.IntN.{pos, negsuc}
use lib.Ieee.{binary64, lt, of_bits, of_int, neg}
use Rattle.acquisition.specs.Normal.{norm_cdf_of}
use Rattle.acquisition.proofs.norm_cdf.Goals as goal

pub returns-then-x : goal.returns-then-x
unfolding norm_cdf_of of_bits of_int neg
returns-then-x c = let t : lt c.args.x (of_int binary64 (negsuc 7)) ≡ true = c.if-x.true in rw t

pub returns-then-x-2 : goal.returns-then-x-2
unfolding norm_cdf_of of_bits of_int neg
returns-then-x-2 c =
    let t : lt (of_int binary64 (pos 8)) c.args.x ≡ true = c.if-x-2.true in
    rw (c.if-x.false, t)

pub returns-then-x-3 : goal.returns-then-x-3
unfolding norm_cdf_of of_bits of_int neg
returns-then-x-3 c = rw (c.if-x.false, c.if-x-2.false, c.if-x-3.true, sym c.abs.ensures, sym c.upper-cdf.ensures)

pub returns-else-x-3 : goal.returns-else-x-3
unfolding norm_cdf_of of_bits of_int neg
returns-else-x-3 c = rw (c.if-x.false, c.if-x-2.false, c.if-x-3.false, sym c.abs.ensures, sym c.upper-cdf.ensures)
