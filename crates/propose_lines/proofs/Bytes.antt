-- Laws of `same_bytes`. Assumes nothing.
use mathlib.Core.Path.{◌≡◌, refl, sym, ap, ap₂, ◌∙◌}
use mathlib.Core.Bool.{Bool, true, false, ◌&&◌, and_assoc, and-false, false≢true}
use mathlib.Core.List.{List, [], ◌∷◌, ◌++◌}
use Prim.Native.Nat.{ℕ, suc, ◌-◌}
use native.Mathlib.Omega.{arith}
use borrow.Author.Tests.{eq-eqb, eqb-true}
use lib.ListN.{length, take, drop, length-drop}
use lib.Seq.{take_all}
use lib.Dec.{eqb}
use lib.Pointwise.{pointwise}
use Rattle.propose_lines.specs.Names.{same_bytes}

pub differ : (a b : List ℕ) → (length a ≡ length b → ⊥) → same_bytes a b ≡ false
unfolding same_bytes
differ [] [] h = absurd (h refl)
differ [] (y ∷ ys) h = refl
differ (x ∷ xs) [] h = refl
differ (x ∷ xs) (y ∷ ys) h = ap (λ (t : Bool). eqb x y && t) (differ xs ys (λ e. h (ap suc e))) ∙ and-false (eqb x y)

-- equal texts, and only they, are the same
pub same_self : (a : List ℕ) → same_bytes a a ≡ true
unfolding same_bytes
same_self [] = refl
same_self (x ∷ xs) = rw (eq-eqb x x refl) (same_self xs)

pub same-equal : (a b : List ℕ) → same_bytes a b ≡ true → a ≡ b
unfolding same_bytes
same-equal [] [] h = refl
same-equal [] (y ∷ ys) h = absurd (false≢true h)
same-equal (x ∷ xs) [] h = absurd (false≢true h)
same-equal (x ∷ xs) (y ∷ ys) h = go (eqb x y) refl h (same-equal xs ys)
  where
    go : (t : Bool) → eqb x y ≡ t → (t && same_bytes xs ys) ≡ true → (same_bytes xs ys ≡ true → xs ≡ ys) → x ∷ xs ≡ y ∷ ys
    go true e k f = ap₂ (λ (u : ℕ) (l : List ℕ). u ∷ l) (eqb-true x y e) (f k)
    go false e k f = absurd (false≢true k)

-- what `==` answers at slices
pub same_pointwise : (a b : List ℕ) → pointwise eqb a b ≡ same_bytes a b
unfolding same_bytes
same_pointwise [] [] = refl
same_pointwise [] (y ∷ ys) = refl
same_pointwise (x ∷ xs) [] = refl
same_pointwise (x ∷ xs) (y ∷ ys) = ap (λ (t : Bool). eqb x y && t) (same_pointwise xs ys)

swap : (x y : ℕ) → eqb x y ≡ eqb y x
swap x y = go (eqb x y) refl (eqb y x) refl
  where
    go : (t : Bool) → eqb x y ≡ t → (u : Bool) → eqb y x ≡ u → t ≡ u
    go true e true f = refl
    go false e false f = refl
    go true e false f = sym (eq-eqb y x (sym (eqb-true x y e))) ∙ f
    go false e true f = sym e ∙ eq-eqb x y (sym (eqb-true y x f))

-- what `starts_with` answers at slices: a text that has to start with c
pub same_after : (l c d : List ℕ) → same_bytes l (c ++ d) ≡ (pointwise eqb c (take (length c) l) && same_bytes (drop (length c) l) d)
unfolding same_bytes
same_after l [] d = refl
same_after [] (x ∷ xs) d = refl
same_after (y ∷ ys) (x ∷ xs) d =
    rw (same_after ys xs d, swap y x) (sym (and_assoc (eqb x y) (pointwise eqb xs (take (length xs) ys)) (same_bytes (drop (length xs) ys) d)))

-- the same, with what is left as a slice gives it
pub same_left : (l c d : List ℕ) → same_bytes l (c ++ d) ≡ (pointwise eqb c (take (length c) l) && same_bytes (take (length l - length c) (drop (length c) l)) d)
same_left l c d =
    let e : take (length l - length c) (drop (length c) l) ≡ drop (length c) l = take_all (length l - length c) (drop (length c) l) (simp length-drop (omega arith)) in
    rw e (same_after l c d)
