-- exp, document 01's recipe line by line. Definitions only.
use Rattle.refusal.specs.declared.Refusal.TheVariants.{OutOfDomain}
use Rattle.refusal.specs.declared.Refusal.{Refusal}
use Rattle.std.specs.Prelude.{ℕ, zero, suc, Bool, false, cond, not, List, get_or, ℤ, pos, negsuc, neg_ℤ, from_bits, is_nan, Float, Result, Ok, Err}
use Rattle.std.specs.Float.{nan, fin, binary64}
use Rattle.std.specs.Float.Ieee.{add, sub, mul, div, lt, of_int}
use Rattle.arith.specs.Lists.{every, list_of}
use Rattle.arith.specs.Outcome.{pick, value_of}
use Rattle.arith.specs.Bounds.{negative}
use Rattle.arith.specs.Ln2.{H, L}
use Rattle.arith.specs.Rounding.{nearest_of, round_of}

-- 1.4426950408889634
abbrev pub log2e : Float
log2e = from_bits binary64 0x3ff71547652b82fe

abbrev pub one : Float
one = from_bits binary64 0x3ff0000000000000

-- "k is x × 1.4426950408889634 rounded to the nearest whole number, halves away from 0": as a float it is `round_of`, as a whole number this
unfoldable pub whole_of : Float → ℤ
unfolding nearest_of
whole_of t = cond (negative t) (neg_ℤ (pos (nearest_of t))) (pos (nearest_of t))

-- "r = (x − k × H) − k × L"
unfoldable pub reduced_of : Float → Float → Float
reduced_of x k = sub binary64 (sub binary64 x (mul binary64 k H)) (mul binary64 k L)

-- "p = 1 + (r × p)/i" for i from n down to 1
unfoldable pub horner_of : ℕ → Float → Float → Float
horner_of zero r p = p
horner_of (suc n) r p = horner_of n r (add binary64 one (div binary64 (mul binary64 r p) (of_int binary64 (pos (suc n)))))

-- "Start p = 1; for i = 13 down to 1 .. Answer p × 2^k", t being x × 1.4426950408889634
unfoldable pub scaled_of : Float → Float → Float
unfolding whole_of round_of reduced_of horner_of
scaled_of x t = mul binary64 (horner_of 13 (reduced_of x (round_of t)) one) (fin false 1 (whole_of t))

-- "NaN gives NaN; below −708 gives +0; above 709 is 11."
unfoldable pub exp_of : Float → Result Float Refusal
unfolding scaled_of
exp_of x =
    pick (is_nan x) (Ok nan)
    (pick (lt x (of_int binary64 (negsuc 707))) (Ok (from_bits binary64 0))
    (pick (lt (of_int binary64 (pos 709)) x) (Err OutOfDomain)
    (Ok (scaled_of x (mul binary64 x log2e)))))

-- none of eight floats is above 709
unfoldable pub none_above : List Float → Bool
none_above xs = every 8 (λ p. not (lt (of_int binary64 (pos 709)) (get_or xs p nan)))

-- exp of each of eight floats: 11 where one is above 709
unfoldable pub exp_eight_of : List Float → Result (List Float) Refusal
unfolding none_above
exp_eight_of xs = cond (none_above xs) (Ok (list_of (λ p. value_of (exp_of (get_or xs p nan))) 8)) (Err OutOfDomain)
