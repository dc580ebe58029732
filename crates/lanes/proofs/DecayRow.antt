-- The kernel by eight squared distances, from the scaled roots and the exponentials. Assumes nothing.
use Rattle.refusal.specs.declared.Refusal.{Refusal}
use Rattle.std.specs.Prelude.{Result, Ok, Err, true}
use mathlib.Core.Path.{◌≡◌, refl, ◌∙◌}
use mathlib.Core.Logic.{◌⊎◌}
use mathlib.Core.List.{List}
use Prim.Native.Nat.{ℕ, ◌<◌}
use lib.IntN.{pos}
use lib.ListN.{get_or}
use lib.Ieee.{Float, nan, inf, fin, binary64, mul, neg, of_int}
use Rattle.arith.specs.Bounds.{Sign}
use Rattle.exponential.specs.Exp.{exp_of, exp_eight_of}
use Rattle.exponential.proofs.ExpLaws.{eight-accepted}
use Rattle.kernel.proofs.Accepted.{not_above}
use Rattle.arith.specs.Outcome.{made, value_of}
use Rattle.kernel.specs.Matern.{polynomial_of, scaled_root_of, decay_of, at_of}
use Rattle.lanes.specs.Rows.{eight_of}
use Rattle.lanes.proofs.Rows.{eight-at, eight-same}

-- where there is no value, both are a NaN
times-nan : (a : Float) → mul binary64 a nan ≡ nan
unfolding mul
times-nan nan = refl
times-nan (inf s) = refl
times-nan (fin s m e) = refl

times-value : (a : Float) (o : Result Float Refusal) → mul binary64 a (value_of o) ≡ value_of (made (mul binary64 a) o)
times-value a (Ok v) = refl
times-value a (Err n) = times-nan a

pub decay-row : (r2 q x e r : List Float) → q ≡ eight_of (λ p. scaled_root_of (get_or r2 p nan)) → x ≡ eight_of (λ p. neg (get_or q p nan)) → e ≡ eight_of (λ p. value_of (exp_of (get_or x p nan)))
    → r ≡ eight_of (λ p. mul binary64 (mul binary64 (of_int binary64 (pos 1)) (polynomial_of (get_or q p nan) (get_or r2 p nan))) (get_or e p nan))
    → r ≡ eight_of (λ p. value_of (at_of (get_or r2 p nan) (of_int binary64 (pos 1))))
decay-row r2 q x e r hq hx he hr = hr ∙ eight-same _ _ one
  where
    one : (p : ℕ) → p < 8 → mul binary64 (mul binary64 (of_int binary64 (pos 1)) (polynomial_of (get_or q p nan) (get_or r2 p nan))) (get_or e p nan) ≡ value_of (at_of (get_or r2 p nan) (of_int binary64 (pos 1)))
    one p h =
        rw (eight-at (λ p. value_of (exp_of (get_or x p nan))) he p h, eight-at (λ p. neg (get_or q p nan)) hx p h, eight-at (λ p. scaled_root_of (get_or r2 p nan)) hq p h)
        (unfold decay_of in times-value (mul binary64 (of_int binary64 (pos 1)) (polynomial_of (scaled_root_of (get_or r2 p nan)) (get_or r2 p nan))) (exp_of (neg (scaled_root_of (get_or r2 p nan)))))

-- each exponential is accepted
pub exponentials-known : (r2 q x : List Float) (r : Result (List Float) Refusal) → q ≡ eight_of (λ p. scaled_root_of (get_or r2 p nan)) → x ≡ eight_of (λ p. neg (get_or q p nan)) → r ≡ exp_eight_of x
    → r ≡ Ok (eight_of (λ p. value_of (exp_of (get_or x p nan))))
exponentials-known r2 q x r hq hx hr = hr ∙ eight-accepted x one
  where
    one : (p : ℕ) → p < 8 → (get_or x p nan ≡ nan) ⊎ Sign true (get_or x p nan)
    one p h = rw (eight-at (λ p. neg (get_or q p nan)) hx p h, eight-at (λ p. scaled_root_of (get_or r2 p nan)) hq p h) (not_above (get_or r2 p nan))
