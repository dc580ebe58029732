-- exp below 0, by the size of k. Assumes nothing.
use Rattle.std.proofs.Common.{◌≡◌, ℕ, ◌<◌, ◌≤◌, Bool, true, false, cond, T, List, get_or, pos, negsuc, sym, refl, ap, ◌∙◌, arith}
use lib.Ieee.{Float, nan, fin, binary64, mul, neg, lt, le, is_nan, of_bits, of_int}
use lib.Ieee.Bits as bits
use Rattle.arith.specs.Bounds.{real, Within, Between}
use Rattle.exponential.specs.Exp.{exp_of, reduced_of, scaled_of, log2e}
use Rattle.exponential.specs.ExpParts.{Falling, size_of, falling_of}
use Rattle.arith.specs.Lists.{list_of}
use Rattle.arith.specs.Outcome.{value_of}
use Rattle.arith.specs.Rounding.{nearest_of}
use Rattle.exponential.proofs.ExpLaws.{accepted}
use Rattle.exponential.proofs.ExpRange.{below-zero, k-neg, scaled-neg}
use Rattle.arith.proofs.Lists.{grown-at, grown-read}
use Rattle.arith.proofs.Order as order
use Rattle.arith.proofs.Tests.{taken, untaken}
use Rattle.arith.proofs.Within.{widen}

is_real : (x : Float) → Falling x → real x
is_real x f = (order.le-real x (of_bits binary64 0) (order.le_of_lt x (of_bits binary64 0) f.0)).0

pub falling-within : (x : Float) → Falling x → Within (fin false 177 (pos 2)) x
unfolding of_int of_bits neg
falling-within x f = below-zero x (is_real x f) f.1 f.0

-- the size fits
pub size_small : (x : Float) → size_of x ≤ 1022
unfolding size_of
size_small x = go (lt x (of_bits binary64 0)) (lt x (neg (of_bits binary64 0x4086200000000000))) refl refl
  where
    go : (a b : Bool) → lt x (of_bits binary64 0) ≡ a → lt x (neg (of_bits binary64 0x4086200000000000)) ≡ b → cond a (cond b 0 (nearest_of (mul binary64 x log2e))) 0 ≤ 1022
    go false b p q = omega arith
    go true true p q = omega arith
    go true false p q = k-neg x (falling-within x (taken p, untaken q))

pub size-falling : (x : Float) → Falling x → size_of x ≡ nearest_of (mul binary64 x log2e)
unfolding size_of
size-falling x f = rw (bits.is_true (lt x (of_bits binary64 0)) f.0, bits.is_false (lt x (neg (of_bits binary64 0x4086200000000000))) f.1)

between : (x : Float) → Falling x → Between (of_int binary64 (negsuc 707)) (of_int binary64 (pos 709)) x
unfolding of_int of_bits neg
between x f =
    (order.le_of_not_lt x (of_int binary64 (negsuc 707)) (is_real x f) (unfold is_nan in tt) f.1, order.le_trans x (of_bits binary64 0) (of_int binary64 (pos 709)) (order.le_of_lt x (of_bits binary64 0) f.0) (unfold le in tt))

-- p × 2^k by the size of k
pub fallen : (x : Float) (n : ℕ) → n ≡ nearest_of (mul binary64 x log2e) → Within (fin false 709 (pos 0)) x → T (lt x (of_bits binary64 0)) → n ≤ 1022 → falling_of x n ≡ scaled_of x (mul binary64 x log2e)
unfolding falling_of
fallen x n e w h l = scaled-neg x _ _ (reduced_of x (neg (of_int binary64 (pos n)))) n e w h l refl refl refl

pub falling-exp : (x : Float) → Falling x → falling_of x (size_of x) ≡ value_of (exp_of x)
falling-exp x f =
    fallen x (size_of x) (size-falling x f) (widen (fin false 177 (pos 2)) (fin false 709 (pos 0)) x (unfold le in tt) (falling-within x f)) f.0 (size_small x)
    ∙ ap value_of (sym (accepted x (between x f)))

-- ---- eight of them
module _ (x : List Float) (ns : List ℕ) (e : ns ≡ list_of (λ p. size_of (get_or x p nan)) 8) where
  size-at : (p : ℕ) → p < 8 → get_or ns p 0 ≡ size_of (get_or x p nan)
  size-at p h = ap (λ (l : List ℕ). get_or l p 0) e ∙ grown-read (λ xs p. size_of (get_or x p nan)) 8 p 0 h

  pub sizes-small : (p : ℕ) → p < 8 → get_or ns p 0 ≤ 1022
  sizes-small p h = rw (size-at p h) (size_small (get_or x p nan))

  pub fallings-at : (r : List Float) → r ≡ list_of (λ p. falling_of (get_or x p nan) (get_or ns p 0)) 8 → (p : ℕ) → p < 8 → get_or r p nan ≡ falling_of (get_or x p nan) (size_of (get_or x p nan))
  fallings-at r q p h =
      ap (λ (l : List Float). get_or l p nan) q
      ∙ grown-at (λ xs p. falling_of (get_or x p nan) (get_or ns p 0)) 8 p h
      ∙ ap (falling_of (get_or x p nan)) (size-at p h)
