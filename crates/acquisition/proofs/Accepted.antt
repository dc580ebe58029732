-- exp is never out of its domain here: its argument is a NaN or not above 0. So each definition answers a value, and an improvement is never a NaN nor below 0. Assumes nothing.
use Rattle.refusal.specs.declared.Refusal.{Refusal}
use Rattle.std.specs.Prelude.{Result, Ok}
use mathlib.Core.Path.{◌≡◌, refl, sym, ap, ◌∙◌, subst}
use mathlib.Core.Logic.{◌⊎◌, inl, inr}
use Prim.Native.Nat.{ℕ, ◌*◌}
use native.Mathlib.Nat.{mul-pos}
use mathlib.Core.Bool.{Bool, true, false, not, cond}
use lib.Dec.{eqb}
use lib.IntN.{ℤ, pos, negsuc}
use lib.Ieee.{Float, nan, inf, fin, binary64, up, down, unlike, round, add, sub, mul, div, lt, le, of_bits, of_int}
use lib.Ieee.Fits.{down_pos}
use Rattle.arith.specs.Bounds.{abs, real, negative, Sign}
use Rattle.arith.specs.Choice.{positive_part}
use Rattle.exponential.specs.Exp.{exp_of}
use Rattle.arith.specs.Outcome.{made, pick, value_of}
use Rattle.arith.proofs.ChoiceLaws.{positive-part, positive-part-real}
use Rattle.arith.proofs.Accepted.{Accepted, accepted-value, made-accepted, pick-accepted}
use Rattle.exponential.proofs.ExpLaws.{exp-accepted}
use Rattle.arith.proofs.Sign.{sign-round}
use Rattle.arith.proofs.Within.{negative-round}
use Rattle.acquisition.specs.Accepts.{ImprovementAccepts}
use Rattle.acquisition.specs.Normal.{one, norm_pdf_of, upper_of, norm_cdf_of}
use Rattle.acquisition.specs.Improvement.{both, expected_improvement_of}

-- ---- -0.5 × x × x
opposite : (s : Bool) → unlike (not s) s ≡ true
opposite true = refl
opposite false = refl

-- y × x, for a y of the other sign
product : (s : Bool) (m : ℕ) (e : ℤ) (y : Float) → negative y ≡ not s → (mul binary64 y (fin s m e) ≡ nan) ⊎ Sign true (mul binary64 y (fin s m e))
unfolding mul
product s m e nan h = inl refl
product s m e (inf b) h = go (eqb m 0)
  where
    go : (z : Bool) → (cond z nan (inf (unlike b s)) ≡ nan) ⊎ Sign true (cond z nan (inf (unlike b s)))
    go true = inl refl
    go false = inr (subst (λ (u : Bool). Sign true (inf u)) (sym (ap (λ (a : Bool). unlike a s) h ∙ opposite s)) (unfold le of_bits in tt))
product s m e (fin b n d) h =
    inr (subst (λ (u : Bool). Sign true (round binary64 u (n * up d * (m * up e)) (down d * down e))) (sym (ap (λ (a : Bool). unlike a s) h ∙ opposite s)) (sign-round true (n * up d * (m * up e)) (down d * down e) (mul-pos (down_pos d) (down_pos e))))

square : (x : Float) → (mul binary64 (mul binary64 (of_bits binary64 0xbfe0000000000000) x) x ≡ nan) ⊎ Sign true (mul binary64 (mul binary64 (of_bits binary64 0xbfe0000000000000) x) x)
square nan = inl (unfold mul of_bits in refl)
square (inf true) = inr (unfold mul of_bits le in tt)
square (inf false) = inr (unfold mul of_bits le in tt)
square (fin s m e) = product s m e (mul binary64 (of_bits binary64 0xbfe0000000000000) (fin s m e)) (sign s)
  where
    sign : (s : Bool) → negative (mul binary64 (of_bits binary64 0xbfe0000000000000) (fin s m e)) ≡ not s
    sign true = unfold mul of_bits in negative-round binary64 false (1 * (m * up e)) (2 * down e)
    sign false = unfold mul of_bits in negative-round binary64 true (1 * (m * up e)) (2 * down e)

-- the exp of the density
pub density-accepted : (x : Float) → Accepted (exp_of (mul binary64 (mul binary64 (of_bits binary64 0xbfe0000000000000) x) x))
density-accepted x = exp-accepted _ (square x)

pub pdf-accepted : (x : Float) → Accepted (norm_pdf_of x)
unfolding norm_pdf_of
pdf-accepted x = made-accepted _ _ (density-accepted x)

pub upper-accepted : (x : Float) → Accepted (upper_of x)
unfolding upper_of
upper-accepted x = made-accepted _ _ (pdf-accepted x)

pub cdf-accepted : (x : Float) → Accepted (norm_cdf_of x)
unfolding norm_cdf_of
cdf-accepted x =
    pick-accepted (lt x (of_int binary64 (negsuc 7))) _ _ (of_bits binary64 0, refl)
    (pick-accepted (lt (of_int binary64 (pos 8)) x) _ _ (one, refl) (made-accepted (λ p. cond (le (of_bits binary64 0) x) p (sub binary64 one p)) _ (upper-accepted (abs x))))

-- ---- an improvement

-- the positive part of some float
abbrev Improves : Result Float Refusal → Type 0
Improves o = (w : Float) × (o ≡ Ok (positive_part w))

both-improves : (f : Float → Float → Float) (o p : Result Float Refusal) → Accepted o → Accepted p → Improves (both (λ a b. positive_part (f a b)) o p)
both-improves f o p a c = (f a.0 c.0, ap (λ y. both (λ a b. positive_part (f a b)) y p) a.1 ∙ ap (made (λ b. positive_part (f a.0 b))) c.1)

improves : (mean std best : Float) → Improves (expected_improvement_of mean std best)
unfolding expected_improvement_of
improves mean std best = go (lt std (of_bits binary64 0x3d719799812dea11))
  where
    d : Float
    d = sub binary64 best mean

    rest : Result Float Refusal
    rest = both (λ p q. positive_part (add binary64 (mul binary64 d p) (mul binary64 std q))) (norm_cdf_of (div binary64 d std)) (norm_pdf_of (div binary64 d std))

    go : (b : Bool) → Improves (pick b (Ok (positive_part d)) rest)
    go true = (d, refl)
    go false = both-improves (λ p q. add binary64 (mul binary64 d p) (mul binary64 std q)) _ _ (cdf-accepted (div binary64 d std)) (pdf-accepted (div binary64 d std))

pub improvement-accepts : ImprovementAccepts
improvement-accepts mean std best =
    let i = improves mean std best in
    let e : positive_part i.0 ≡ value_of (expected_improvement_of mean std best) = sym (ap value_of i.1) in
    (accepted-value _ (positive_part i.0, i.1), subst real e (positive-part-real i.0), subst (Sign false) e (positive-part i.0))
