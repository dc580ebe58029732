use Rattle.refusal.specs.declared.Refusal.TheVariants.{OutOfDomain}
use Rattle.std.specs.Prelude.{Ok, Err}
use mathlib.Core.Path.{◌≡◌, ap, ◌∙◌}
use mathlib.Core.Bool.{true, false}
use Prim.Native.Nat.{◌+◌, ◌%◌, ◌≤◌, ◌<◌}
use native.Mathlib.Omega.{arith}
use borrow.Author.Tests.{le-leb, lt-leb, lt-ltb, le-ltb}
use lib.Ieee.{Float, binary64, lt, of_bits, to_bits, of_int}
use Rattle.logarithm.specs.Ln.{ln_of, normal, field, digits, mantissa_of, exponent_of, halved_of}
use Rattle.arith.proofs.Patterns.{no_nan}
use Rattle.logarithm.proofs.recipe.ln.Goals as goal

-- what the tests pick
refused : (x : Float) → normal x ≡ false → Err OutOfDomain ≡ ln_of x
unfolding ln_of
refused x h = rw h

given : (x r : Float) → normal x ≡ true → r ≡ halved_of (mantissa_of x) (of_int binary64 (exponent_of x)) → Ok r ≡ ln_of x
unfolding ln_of
given x r h e = rw h (ap Ok e)

not-above : (x : Float) → lt (of_bits binary64 0) x ≡ false → normal x ≡ false
unfolding normal
not-above x h = rw h

small : (x : Float) → lt (of_bits binary64 0) x ≡ true → field x < 1 → normal x ≡ false
unfolding normal
small x h k = rw (h, lt-leb 1 (field x) k)

large : (x : Float) → lt (of_bits binary64 0) x ≡ true → 1 ≤ field x → 2047 ≤ field x → normal x ≡ false
unfolding normal
large x h k l = rw (h, le-leb 1 (field x) k, le-ltb (field x) 2047 l)

is_normal : (x : Float) → lt (of_bits binary64 0) x ≡ true → 1 ≤ field x → field x < 2047 → normal x ≡ true
unfolding normal
is_normal x h k l = rw (h, le-leb 1 (field x) k, lt-ltb (field x) 2047 l)

pub returns-then-field-lt1 : goal.returns-then-field-lt1
unfolding field
returns-then-field-lt1 c = refused _ (small c.args.x c.if-x.true c.if-field-lt1.true)

pub returns-then-field-ge2047 : goal.returns-then-field-ge2047
unfolding field
returns-then-field-ge2047 c = refused _ (large c.args.x c.if-x.true c.if-field-lt1.false c.if-field-ge2047.true)

pub float_from_bits-m : goal.float_from_bits-m
float_from_bits-m c = no_nan (0x3ff0000000000000 + to_bits binary64 c.args.x % 4503599627370496) (omega arith)

pub returns-else-field-ge2047 : goal.returns-else-field-ge2047
unfolding field digits mantissa_of exponent_of
returns-else-field-ge2047 c =
    let x = c.args.x in
    given x c.halved.result (is_normal x c.if-x.true c.if-field-lt1.false c.if-field-ge2047.false)
    (c.halved.ensures ∙ ap (λ (e : Float). halved_of (mantissa_of x) e) c.exponent.ensures)

pub returns-else-x : goal.returns-else-x
returns-else-x c = refused _ (not-above c.args.x c.if-x.false)
