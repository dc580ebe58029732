-- `exponential::exp` meets its contract: the tests bound x, so that k fits (`ExpRange.antt`), and the calls give what the definition says. Assumes nothing.
use Rattle.refusal.specs.declared.Refusal.TheVariants.{OutOfDomain}
use Rattle.std.specs.Prelude.{Ok, Err}
use Rattle.std.proofs.Common.{◌≡◌, ℕ, ◌≤◌, true, false, not, T, pos, sym, refl, ap, ◌∙◌, subst, inl, inr, arith, le→leb}
use lib.Ieee.{Float, binary64, mul, le, lt, neg, of_int, of_bits, in_float, is_nan, fin, fits}
use Rattle.arith.specs.Bounds.{Within}
use Rattle.exponential.specs.Exp.{exp_of, scaled_of, log2e}
use Rattle.arith.proofs.Tests.{taken, untaken, either}
use Rattle.arith.proofs.Within.{widen}
use Rattle.arith.proofs.WordFacts.{is-nan}
use Rattle.exponential.proofs.ExpRange.{below-zero, from_zero, k-neg, k-pos, asked-neg, asked-pos, scaled-pos}
use Rattle.exponential.proofs.FallingLaws.{fallen}
use Rattle.exponential.proofs.exp.Goals as goal
use Rattle.exponential.proofs.exp.Goals.{Else-is_nan, Else-x-2, Else-x-3, Then-x-3}

-- what the tests pick
at-nan : (x : Float) → is_nan x ≡ true → Ok x ≡ exp_of x
unfolding exp_of is_nan
at-nan x e = subst (λ (y : Float). Ok y ≡ exp_of y) (sym (is-nan x e)) refl

at_low : (x : Float) → is_nan x ≡ false → lt x (neg (of_bits binary64 0x4086200000000000)) ≡ true → Ok (of_bits binary64 0) ≡ exp_of x
unfolding exp_of of_int of_bits neg
at_low x e l = rw (e, l)

at_high : (x : Float) → is_nan x ≡ false → lt x (neg (of_bits binary64 0x4086200000000000)) ≡ false → lt (of_bits binary64 0x4086280000000000) x ≡ true → Err OutOfDomain ≡ exp_of x
unfolding exp_of of_int of_bits neg
at_high x e l h = rw (e, l, h)

at-middle : (x : Float) → is_nan x ≡ false → lt x (neg (of_bits binary64 0x4086200000000000)) ≡ false → lt (of_bits binary64 0x4086280000000000) x ≡ false → Ok (scaled_of x (mul binary64 x log2e)) ≡ exp_of x
unfolding exp_of of_int of_bits neg
at-middle x e l h = rw (e, l, h)

-- past the first test
number : (c : Else-is_nan) → is_nan c.args.x ≡ false
number c = sym c.is_nan.ensures.value ∙ c.if-is_nan.false

pub returns-then-is_nan : goal.returns-then-is_nan
returns-then-is_nan c = at-nan c.args.x (sym c.is_nan.ensures.value ∙ c.if-is_nan.true)

pub returns-then-x : goal.returns-then-x
returns-then-x c = at_low c.args.x (number (goal.at.returns-then-x c).Else-is_nan) c.if-x.true

pub returns-then-x-2 : goal.returns-then-x-2
returns-then-x-2 c = at_high c.args.x (number (goal.at.returns-then-x-2 c).Else-is_nan) c.if-x.false c.if-x-2.true

abbrev arg : Else-x-2 → Float
arg c = c.args.x

real : (c : Else-x-2) → is_nan (arg c) ≡ false
real c = number c.before.before

neg-range : (c : Else-x-2) → T (lt (arg c) (of_bits binary64 0)) → Within (fin false 177 (pos 2)) (arg c)
unfolding of_int of_bits neg
neg-range c h = below-zero (arg c) (untaken (real c)) (untaken c.if-x.false) h

pos-range : (c : Else-x-2) → T (not (lt (arg c) (of_bits binary64 0))) → Within (fin false 709 (pos 0)) (arg c)
unfolding of_int of_bits neg
pos-range c h = from_zero (arg c) (untaken (real c)) (untaken c.if-x-2.false) h

pub nearest-n-requires : goal.nearest-n-requires
nearest-n-requires c =
    elim (either (lt (arg (goal.at.nearest-n-requires c).Else-x-2) (of_bits binary64 0))) [ inl h ↦ asked-neg (arg (goal.at.nearest-n-requires c).Else-x-2) (neg-range (goal.at.nearest-n-requires c).Else-x-2 h) | inr h ↦ asked-pos (arg (goal.at.nearest-n-requires c).Else-x-2) (pos-range (goal.at.nearest-n-requires c).Else-x-2 h) ]

-- k, on either side
at-neg : (c : Then-x-3) → c.nearest-n.result ≤ 1022
at-neg c = subst (λ (n : ℕ). n ≤ 1022) (sym c.nearest-n.ensures) (k-neg (arg c.before.before) (neg-range c.before.before (taken c.if-x-3.true)))

at-pos : (c : Else-x-3) → c.nearest-n.result ≤ 1023
at-pos c = subst (λ (n : ℕ). n ≤ 1023) (sym c.nearest-n.ensures) (k-pos (arg c.before.before) (pos-range c.before.before (untaken c.if-x-3.false)))

few : (n : ℕ) → n ≤ 1023 → T (in_float binary64 (pos n))
unfolding in_float
few n h = le→leb n 9007199254740992 (omega arith)

pub falling-requires : goal.falling-requires
falling-requires c = at-neg (goal.at.falling-requires c).Then-x-3

pub int_to_float-n : goal.int_to_float-n
int_to_float-n c = few c.nearest-n.result (at-pos (goal.at.int_to_float-n c).Else-x-3)

pub overflow_add-n : goal.overflow_add-n
overflow_add-n c = omega (arith, at-pos (goal.at.overflow_add-n c).Else-x-3)

pub power_of_two-requires : goal.power_of_two-requires
power_of_two-requires c = omega (arith, at-pos (goal.at.power_of_two-requires c).Else-x-3)

middle : (c : Else-x-2) → Ok (scaled_of (arg c) (mul binary64 (arg c) log2e)) ≡ exp_of (arg c)
middle c = at-middle (arg c) (real c) c.if-x.false c.if-x-2.false

widened : (x : Float) → Within (fin false 177 (pos 2)) x → Within (fin false 709 (pos 0)) x
widened x w = widen (fin false 177 (pos 2)) (fin false 709 (pos 0)) x (unfold le in tt) w

held : (c : Else-x-2) → T (fits binary64 (arg c))
held c = taken c.well_formed.0.1

pub returns-then-x-3 : goal.returns-then-x-3
returns-then-x-3 c =
    let x = arg (goal.at.returns-then-x-3 c).Else-x-2 in
    let w = widened x (neg-range (goal.at.returns-then-x-3 c).Else-x-2 (taken c.if-x-3.true)) in
    ap Ok (c.falling.ensures ∙ fallen x c.nearest-n.result c.nearest-n.ensures w (taken c.if-x-3.true) (at-neg (goal.at.returns-then-x-3 c).Then-x-3))
    ∙ middle (goal.at.returns-then-x-3 c).Else-x-2

pub returns-else-x-3 : goal.returns-else-x-3
returns-else-x-3 c =
    let x = arg (goal.at.returns-else-x-3 c).Else-x-2 in
    let w = pos-range (goal.at.returns-else-x-3 c).Else-x-2 (untaken c.if-x-3.false) in
    ap Ok (scaled-pos x _ _ _ c.nearest-n.result c.nearest-n.ensures (held (goal.at.returns-else-x-3 c).Else-x-2) w (untaken c.if-x-3.false) c.horner.ensures c.reduced.ensures c.power_of_two.ensures)
    ∙ middle (goal.at.returns-else-x-3 c).Else-x-2
