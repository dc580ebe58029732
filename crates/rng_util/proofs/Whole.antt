-- A whole number drawn in a..=b lies there: b − a is a number d, the remainder is at most d, and a sum grows with its second part.
use mathlib.Core.Path.{◌≡◌, refl, sym, ap, subst, ◌∙◌}
use mathlib.Core.Bool.{Bool, true, false, ◌&&◌, cond}
use Prim.Native.Nat.{ℕ, zero, suc, ◌+◌, ◌-◌, ◌%◌, ◌^◌, ◌≤◌, suc-le-suc, zero-le}
use native.Mathlib.Nat.{mod-lt}
use native.Mathlib.Omega.{arith}
use lib.Dec.{T, leb, ltb, leb→le, le→leb}
use lib.IntN.{ℤ, pos, negsuc, sub_ℕ, ◌+ℤ◌, ◌-ℤ◌, nat_abs, +ℤ_idr, +ℤ_comm, -ℤ-+ℤ_cancel}
use lib.Signed.{le_z, mag}
use lib.Ieee.Fits.{and_l, and_r}
use mir.Syntax.{w64}
use mir.Val.{SFits}
use borrow.Author.Tests.{ltb-true, ltb-false, le-ltb}
use Rattle.std.specs.Prelude.{Result, Ok, Err}
use Rattle.refusal.specs.declared.Refusal.{Refusal}
use Rattle.refusal.specs.declared.Refusal.TheVariants.{OutOfDomain}
use Rattle.rng_util.specs.declared.Draw.{Draw}
use Rattle.rng_util.specs.Draws.{whole_of, range_ok, read_by, word_draw_of, whole_draw_of}

-- v lies in a..=b
abbrev pub Between : ℤ → ℤ → ℤ → Type 0
Between a b v = T (le_z a v) × T (le_z v b)

-- b − a, where it is no less than 0
pub record Difference (a b : ℤ) : Type 0 where
  pub size : ℕ
  pub is : b -ℤ a ≡ pos size
  pub small : size ≤ nat_abs a + nat_abs b

difference-of : (a b : ℤ) → T (le_z a b) → Difference a b
difference-of (pos zero) (pos b) h = record { size = b + 0; is = refl; small = omega arith }
difference-of (pos (suc a)) (pos b) h = record { size = b - suc a; is = rw (le-ltb b (suc a) (leb→le (suc a) b h)); small = omega arith }
difference-of (pos zero) (negsuc b) h = absurd h
difference-of (pos (suc a)) (negsuc b) h = absurd h
difference-of (negsuc a) (pos b) h = record { size = b + suc a; is = refl; small = omega arith }
difference-of (negsuc a) (negsuc b) h = record { size = suc a - suc b; is = rw (le-ltb (suc a) (suc b) (suc-le-suc (leb→le b a h))); small = omega arith }

-- a sum grows with its second part
sub-mono : (n r d : ℕ) → r ≤ d → T (le_z (sub_ℕ r n) (sub_ℕ d n))
sub-mono n r d h = go (ltb r n) (ltb d n) refl refl
  where
    go : (x y : Bool) → ltb r n ≡ x → ltb d n ≡ y → T (le_z (cond x (negsuc (n - suc r)) (pos (r - n))) (cond y (negsuc (n - suc d)) (pos (d - n))))
    go true true p q = le→leb (n - suc d) (n - suc r) (omega arith)
    go true false p q = tt
    go false true p q = absurd (omega (arith, ltb-false r n p, ltb-true d n q))
    go false false p q = le→leb (r - n) (d - n) (omega arith)

add-mono : (a : ℤ) (r d : ℕ) → r ≤ d → T (le_z (a +ℤ pos r) (a +ℤ pos d))
add-mono (pos a) r d h = le→leb (a + r) (a + d) (omega arith)
add-mono (negsuc a) r d h = sub-mono (suc a) r d h

-- what lies between two numbers is no larger than they are
between-small : (n : ℕ) (a b v : ℤ) → nat_abs a ≤ n → nat_abs b ≤ n → Between a b v → mag v ≤ n
between-small n a (pos b) (pos v) p q h = omega (arith, leb→le v b h.1)
between-small n a (negsuc b) (pos v) p q h = absurd h.1
between-small n (pos a) b (negsuc v) p q h = absurd h.0
between-small n (negsuc a) b (negsuc v) p q h = omega (arith, leb→le v a h.0)

-- the ends of a range that is accepted
record Ends (a b : ℤ) : Type 0 where
  ordered : T (le_z a b)
  low : nat_abs a ≤ 2 ^ 53
  high : nat_abs b ≤ 2 ^ 53

module _ (a b : ℤ) (ok : T (range_ok a b)) where
  ends : Ends a b
  unfolding range_ok
  ends =
      let p = leb (nat_abs a) (2 ^ 53) in
      let q = leb (nat_abs b) (2 ^ 53) in
      let t = and_l (le_z a b && p) q ok in
      record { ordered = and_l (le_z a b) p t; low = leb→le (nat_abs a) (2 ^ 53) (and_r (le_z a b) p t); high = leb→le (nat_abs b) (2 ^ 53) (and_r (le_z a b && p) q ok) }

  pub difference : Difference a b
  difference = difference-of a b ends.ordered

  pub difference-small : difference.size ≤ 2 ^ 54
  difference-small = omega (arith, difference.small, ends)

  -- the definition, at the number b − a
  pub whole_is : (word : ℕ) → whole_of a b word ≡ a +ℤ pos (word % (difference.size + 1))
  unfolding whole_of
  whole_is word = ap (λ (z : ℤ). a +ℤ pos (word % nat_abs (z +ℤ pos 1))) difference.is

  -- it lies in a..=b, and so fits 64 bits
  pub whole-between : (word : ℕ) → Between a b (whole_of a b word)
  whole-between word =
      let d = difference.size in
      let r = word % (d + 1) in
      let top : a +ℤ pos d ≡ b = ap (λ (z : ℤ). a +ℤ z) (sym difference.is) ∙ +ℤ_comm a (b -ℤ a) ∙ -ℤ-+ℤ_cancel b a in
      let most : r ≤ d = omega (arith, mod-lt word {m = d + 1} (omega arith)) in
      rw (whole_is word) (rw (+ℤ_idr a) at (add-mono a 0 r zero-le), rw top at (add-mono a r d most))

  pub whole-fits : (word : ℕ) → SFits w64 (whole_of a b word)
  whole-fits word = record { sfits = omega (arith, between-small (2 ^ 53) a b (whole_of a b word) ends.low ends.high (whole-between word)) }

-- the same of an accepted draw
pub whole-draw-between : (w : ℕ) (a b : ℤ) (d : Draw ℤ) → whole_draw_of w a b ≡ Ok d → Between a b d.value
unfolding whole_draw_of
whole-draw-between w a b d = go (range_ok a b) refl (word_draw_of w)
  where
    go : (t : Bool) → range_ok a b ≡ t → (r : Result (Draw ℕ) Refusal) → cond t (read_by (whole_of a b) r) (Err OutOfDomain) ≡ Ok d → Between a b d.value
    go true t (Ok x) e = let v : whole_of a b x.value ≡ d.value = cc in subst (Between a b) v (whole-between a b (subst T (sym t) tt) x.value)
    go true t (Err x) e = absurd (cc)
    go false t r e = absurd (cc)
