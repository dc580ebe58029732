-- The standard normal density and distribution function, by Abramowitz and Stegun, 26.2.1 and 26.2.17, in the Rust's order of operations. Each answers the refusal of an exp out of its domain; specs/Accepts states that there is none. Definitions only.
use Rattle.refusal.specs.declared.Refusal.{Refusal}
use Rattle.std.specs.Prelude.{cond, pos, negsuc, Float, Result, Ok}
use Rattle.std.specs.Float.{binary64}
use Rattle.std.specs.Float.Ieee.{add, sub, mul, div, lt, le, of_bits, of_int}
use Rattle.arith.specs.Bounds.{abs}
use Rattle.exponential.specs.Exp.{exp_of}
use Rattle.arith.specs.Outcome.{made, pick}

abbrev pub one : Float
one = of_int binary64 (pos 1)

-- 26.2.1, Z(x) = (1/√(2π)) e^(-x²/2), with 1/√(2π) = 0.3989422804014327
unfoldable pub norm_pdf_of : Float → Result Float Refusal
norm_pdf_of x = made (mul binary64 (of_bits binary64 0x3fd9884533d43651)) (exp_of (mul binary64 (mul binary64 (of_bits binary64 0xbfe0000000000000) x) x))

-- b1 t + b2 t² + b3 t³ + b4 t⁴ + b5 t⁵ with b1 = 0.319381530, b2 = -0.356563782, b3 = 1.781477937, b4 = -1.821255978, b5 = 1.330274429
unfoldable pub polynomial_of : Float → Float
polynomial_of t =
    let t2 = mul binary64 t t in
    let t3 = mul binary64 t2 t in
    let t4 = mul binary64 t3 t in
    let t5 = mul binary64 t4 t in
    add binary64
    (sub binary64
    (add binary64 (sub binary64 (mul binary64 (of_bits binary64 0x3fd470bf3a92f8ec) t) (mul binary64 (of_bits binary64 0x3fd6d1f0e5a8325b) t2)) (mul binary64 (of_bits binary64 0x3ffc80ef025f5e68) t3))
    (mul binary64 (of_bits binary64 0x3ffd23dd4ef278d0) t4))
    (mul binary64 (of_bits binary64 0x3ff548cdd6f42943) t5)

-- 26.2.17, P(x) = 1 - Z(x) (b1 t + .. + b5 t⁵) with t = 1/(1 + p x), p = 0.2316419, for 0 ≤ x
unfoldable pub upper_of : Float → Result Float Refusal
unfolding norm_pdf_of polynomial_of
upper_of x = made (λ z. sub binary64 one (mul binary64 z (polynomial_of (div binary64 one (add binary64 one (mul binary64 (of_bits binary64 0x3fcda6711871100e) x)))))) (norm_pdf_of x)

-- "`norm_cdf` follows 26.2.17, 0 below −8 and 1 above 8"; below 0 it is 1 - P(-x)
unfoldable pub norm_cdf_of : Float → Result Float Refusal
unfolding upper_of
norm_cdf_of x =
    pick (lt x (of_int binary64 (negsuc 7))) (Ok (of_bits binary64 0))
    (pick (lt (of_int binary64 (pos 8)) x) (Ok one)
    (made (λ p. cond (le (of_bits binary64 0) x) p (sub binary64 one p)) (upper_of (abs x))))
