-- `rng_util::whole_at` meets its contract: read as signed numbers, what the code computes is the definition at the number b − a, and every part of it fits.
use mathlib.Core.Path.{◌≡◌, sym}
use Prim.Native.Nat.{ℕ, ◌+◌, ◌%◌, ◌^◌, ◌≤◌, ◌<◌}
use native.Mathlib.Nat.{mod-lt}
use native.Mathlib.Omega.{arith}
use lib.IntN.{ℤ, pos, ◌+ℤ◌, ◌-ℤ◌, nat_abs}
use mir.Syntax.{w64}
use mir.Val.{to_z, of_z, SFits}
use mir.ValLaws.{to_z-of_z, to_z_pos}
use Rattle.rng_util.specs.Draws.{whole_of}
use Rattle.rng_util.proofs.Whole.{difference, difference-small, whole_is, whole-fits}
use Rattle.rng_util.proofs.whole_at.Goals as goal
use Rattle.rng_util.proofs.whole_at.Goals.{Start}

module _ (c : Start) where
  abbrev size : ℕ
  size = (difference c.args.a c.args.b c.requires).size

  small : size ≤ 2 ^ 54
  small = difference-small c.args.a c.args.b c.requires

  remainder-fits : c.args.word % (size + 1) < 2 ^ 63
  remainder-fits = omega (arith, small, mod-lt c.args.word {m = size + 1} (omega arith))

  a-is : to_z w64 (of_z w64 c.args.a) ≡ c.args.a
  a-is = to_z-of_z w64 c.args.a c.ranges.a

  -- b - a as the code computes it
  abbrev computed : ℤ
  computed = to_z w64 (of_z w64 c.args.b) -ℤ to_z w64 (of_z w64 c.args.a)

  computed-is : computed ≡ pos size
  computed-is = rw (a-is, to_z-of_z w64 c.args.b c.ranges.b) (difference c.args.a c.args.b c.requires).is

  stored_is : to_z w64 (of_z w64 computed) ≡ pos size
  stored_is = rw computed-is (to_z_pos w64 size (omega (arith, small)))

  -- the sum as the code computes it
  sum_is : to_z w64 (of_z w64 c.args.a) +ℤ to_z w64 (c.args.word % (nat_abs (to_z w64 (of_z w64 computed)) + 1)) ≡ whole_of c.args.a c.args.b c.args.word
  sum_is = rw (stored_is, to_z_pos w64 (c.args.word % (size + 1)) remainder-fits, a-is) (sym (whole_is c.args.a c.args.b c.requires c.args.word))

  sum_fits : SFits w64 (whole_of c.args.a c.args.b c.args.word)
  sum_fits = whole-fits c.args.a c.args.b c.requires c.args.word

pub overflow_sub-width : goal.overflow_sub-width
overflow_sub-width c = rw (computed-is (goal.at.overflow_sub-width c).Start) (record { sfits = omega (arith, small (goal.at.overflow_sub-width c).Start) })

pub overflow_cast-width : goal.overflow_cast-width
overflow_cast-width c = rw (stored_is (goal.at.overflow_cast-width c).Start) (tt, record { fits = omega (arith, small (goal.at.overflow_cast-width c).Start) })

pub overflow_cast-result : goal.overflow_cast-result
overflow_cast-result c = rw (stored_is (goal.at.overflow_cast-result c).Start) (record { sfits = remainder-fits (goal.at.overflow_cast-result c).Start })

pub overflow_add-result : goal.overflow_add-result
overflow_add-result c = rw (sum_is (goal.at.overflow_add-result c).Start) (sum_fits (goal.at.overflow_add-result c).Start)

pub returns : goal.returns
returns c = rw (sum_is (goal.at.returns c).Start) (to_z-of_z w64 (whole_of c.args.a c.args.b c.args.word) (sum_fits (goal.at.returns c).Start))
