-- `distribution::shape::well_formed` meets its contract, by its tests in order: std's order is `le` and `le_z`, and the literals are computed.
use Prim.Native.Nat.{◌^◌}
use lib.IntN.{pos, negsuc, neg_ℤ}
use lib.Ieee.{neg, of_bits}
use Rattle.std.proofs.Common.{rules, of_calls}
use Rattle.distribution.specs.Shape.{power, float_step, float_shape, int_step, int_shape, shape_of}
use Rattle.distribution.proofs.Order.{floats, ints, shaped, unshaped}
use Rattle.distribution.proofs.shape.well_formed.Goals as goal

pub returns-then-ends : goal.returns-then-ends
unfolding shape_of float_shape of_bits
returns-then-ends c =
    let d = c.in-Float.f in
    rw c.in-Float.is
    (shaped _ _ floats (neg (power (pos 52))) (power (pos 52)) (power (negsuc 51)) d c.ends.result c.ends.ensures (float_step d.low d.high) c.is_none_or.result c.if-ends.true
    (search (rules, of_calls)))

pub returns-else-ends : goal.returns-else-ends
unfolding shape_of float_shape of_bits
returns-else-ends c =
    let d = c.in-Float.f in
    rw c.in-Float.is
    (unshaped _ _ floats (neg (power (pos 52))) (power (pos 52)) (power (negsuc 51)) d c.ends.result c.ends.ensures (float_step d.low d.high) c.if-ends.false)

pub returns-then-ends-2 : goal.returns-then-ends-2
unfolding shape_of int_shape int_step
returns-then-ends-2 c =
    let d = c.in-Int.i in
    rw c.in-Int.is
    (shaped _ _ ints (neg_ℤ (pos (2 ^ 52))) (pos (2 ^ 52)) (pos 1) d c.ends-in-Int.result c.ends-in-Int.ensures int_step
    c.is_none_or-then-ends-2.result c.if-ends-2.true (search (rules, of_calls)))

pub returns-else-ends-2 : goal.returns-else-ends-2
unfolding shape_of int_shape int_step
returns-else-ends-2 c =
    let d = c.in-Int.i in
    rw c.in-Int.is
    (unshaped _ _ ints (neg_ℤ (pos (2 ^ 52))) (pos (2 ^ 52)) (pos 1) d c.ends-in-Int.result c.ends-in-Int.ensures int_step c.if-ends-2.false)
