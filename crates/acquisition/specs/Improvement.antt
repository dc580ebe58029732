-- Jones' expected improvement for a minimum: (best - mean) Φ(z) + std φ(z) with z = (best - mean)/std, held to 0 from below. Definitions only.
use Rattle.refusal.specs.declared.Refusal.{Refusal}
use Rattle.std.specs.Prelude.{Float, Result, Ok, Err}
use Rattle.std.specs.Float.{binary64}
use Rattle.std.specs.Float.Ieee.{add, sub, mul, div, lt, of_bits}
use Rattle.arith.specs.Choice.{positive_part}
use Rattle.arith.specs.Outcome.{made, pick}
use Rattle.acquisition.specs.Normal.{norm_pdf_of, norm_cdf_of}

-- of two answers, or the first refusal
abbrev pub both : (Float → Float → Float) → Result Float Refusal → Result Float Refusal → Result Float Refusal
both f (Ok a) b = made (f a) b
both f (Err n) b = Err n

-- below a deviation of 1e-12 it is the positive part of best - mean
unfoldable pub expected_improvement_of : Float → Float → Float → Result Float Refusal
expected_improvement_of mean std best =
    let d = sub binary64 best mean in
    let z = div binary64 d std in
    pick (lt std (of_bits binary64 0x3d719799812dea11)) (Ok (positive_part d))
    (both (λ p q. positive_part (add binary64 (mul binary64 d p) (mul binary64 std q))) (norm_cdf_of z) (norm_pdf_of z))
