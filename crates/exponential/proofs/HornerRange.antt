-- The polynomial of `exp` stays between 0.5 and 1.5 for an r of at most 0.36 in size, rounding and all. Assumes nothing.
use Rattle.std.proofs.Common.{ℕ, false, ◌&&◌, T, pos, negsuc}
use lib.Ieee.{Float, fin, binary64, add, sub, mul, div, le, of_int, of_bits}
use lib.Ieee.Scale.{finite}
use Rattle.arith.specs.Bounds.{Within, abs}
use Rattle.arith.proofs.Within.{mul_in, div-in, add-in, near-in, widen}
use Rattle.exponential.specs.Exp.{horner_of, one}

-- 1.5, 0.54, 0.27 and 0.36 are each a little more: multiples of 1/1024
abbrev r-max : Float
r-max = fin false 369 (negsuc 9)

abbrev p-max : Float
p-max = fin false 3 (negsuc 0)

abbrev two : Float
two = fin false 1 (pos 1)

abbrev whole : ℕ → Float
whole k = of_int binary64 (pos k)

abbrev step : Float → Float → Float → Float
step r p i = add binary64 one (div binary64 (mul binary64 r p) i)

-- one step with a divisor of 2 or more
inside : (r p i : Float) → Within r-max r → Within p-max p → T (finite i && le two (abs i)) → Within (fin false 1301 (negsuc 9)) (step r p i)
unfolding mul div add le of_bits
inside r p i R P I =
    add-in binary64 one (fin false 277 (negsuc 9)) (fin false 1301 (negsuc 9)) one (div binary64 (mul binary64 r p) i) tt tt
    (div-in binary64 (fin false 277 (negsuc 8)) two (fin false 277 (negsuc 9)) (mul binary64 r p) i tt I
    (mul_in binary64 r-max p-max (fin false 277 (negsuc 8)) r p tt R P))

again : (r p i : Float) → Within r-max r → Within p-max p → T (finite i && le two (abs i)) → Within p-max (step r p i)
unfolding le
again r p i R P I = widen (fin false 1301 (negsuc 9)) p-max (step r p i) tt (inside r p i R P I)

-- the last step, with the divisor 1
last : (r p : Float) → Within r-max r → Within (fin false 1301 (negsuc 9)) p → T (le (fin false 1 (negsuc 0)) (step r p (of_int binary64 (pos 1)))) × T (le (step r p (of_int binary64 (pos 1))) p-max)
unfolding mul div add sub le of_bits of_int
last r p R P =
    near-in binary64 one (fin false 471 (negsuc 9)) (fin false 1 (negsuc 0)) p-max (div binary64 (mul binary64 r p) (of_int binary64 (pos 1))) tt
    (div-in binary64 (fin false 471 (negsuc 9)) (fin false 1 (pos 0)) (fin false 471 (negsuc 9)) (mul binary64 r p) (of_int binary64 (pos 1)) tt tt
    (mul_in binary64 r-max (fin false 1301 (negsuc 9)) (fin false 471 (negsuc 9)) r p tt R P))

pub horner-range : (r : Float) → Within r-max r → T (le (fin false 1 (negsuc 0)) (horner_of 13 r one)) × T (le (horner_of 13 r one) p-max)
unfolding horner_of of_int le of_bits
horner-range r R =
    let a = again r one (whole 13) R tt tt in
    let b = again r _ (whole 12) R a tt in
    let c = again r _ (whole 11) R b tt in
    let d = again r _ (whole 10) R c tt in
    let e = again r _ (whole 9) R d tt in
    let f = again r _ (whole 8) R e tt in
    let g = again r _ (whole 7) R f tt in
    let h = again r _ (whole 6) R g tt in
    let i = again r _ (whole 5) R h tt in
    let j = again r _ (whole 4) R i tt in
    let k = again r _ (whole 3) R j tt in
    last r _ R (inside r _ (whole 2) R k tt)
