-- The Matérn kernel for ν = 5/2, Rasmussen and Williams, 4.17, s (1 + √5 r + 5 r²/3) exp(-√5 r), with a lengthscale for each column (their section 5.1). `matern52` "associates as written". Definitions only.
use Rattle.refusal.specs.declared.Refusal.TheVariants.{OutOfDomain}
use Rattle.refusal.specs.declared.Refusal.{Refusal}
use Rattle.std.specs.Prelude.{Bool, ◌&&◌, List, eqb, length, get_or, pos, Float, Result, Err}
use Rattle.std.specs.Float.{nan, binary64}
use Rattle.std.specs.Float.Ieee.{add, sub, mul, div, neg, of_bits, of_int}
use Rattle.exponential.specs.Exp.{exp_of}
use Rattle.arith.specs.Outcome.{made, pick}
use Rattle.root.specs.Sqrt.{sqrt_of}
use Rattle.arith.specs.Sums.{sum_over}

-- the square of a float
abbrev pub square : Float → Float
square v = mul binary64 v v

-- the lists have one length
abbrev pub fits : List Float → List Float → List Float → Bool
fits x1 x2 l = eqb (length x1) (length x2) && eqb (length x1) (length l)

-- r²: the squares of the scaled differences, summed
abbrev pub squared_distance_of : List Float → List Float → List Float → Float
squared_distance_of x1 x2 l = sum_over (length x1) (λ i. square (div binary64 (sub binary64 (get_or x1 i nan) (get_or x2 i nan)) (get_or l i nan)))

-- SQRT_5: "the Rust's constant 2.236213562373095, which is not the root of 5"
abbrev pub sqrt5 : Float
sqrt5 = of_bits binary64 0x4001e3c3efaa1ce0

-- 1 + q + 5/3 r²
abbrev pub polynomial_of : Float → Float → Float
polynomial_of q r2 = add binary64 (add binary64 (of_int binary64 (pos 1)) q) (mul binary64 (div binary64 (of_int binary64 (pos 5)) (of_int binary64 (pos 3))) r2)

-- √5 r
unfoldable pub scaled_root_of : Float → Float
scaled_root_of r2 = mul binary64 sqrt5 (sqrt_of r2)

-- from r² and q = √5 r. exp's refusal is passed on; specs/Accepts states that there is none.
unfoldable pub decay_of : Float → Float → Float → Result Float Refusal
decay_of r2 q s = made (λ e. mul binary64 (mul binary64 s (polynomial_of q r2)) e) (exp_of (neg q))

-- at a squared distance
abbrev pub at_of : Float → Float → Result Float Refusal
at_of r2 s = decay_of r2 (scaled_root_of r2) s

-- "lists of unequal length .. are 11"
unfoldable pub matern52_of : List Float → List Float → List Float → Float → Result Float Refusal
unfolding scaled_root_of decay_of
matern52_of x1 x2 l s = pick (fits x1 x2 l) (at_of (squared_distance_of x1 x2 l) s) (Err OutOfDomain)
