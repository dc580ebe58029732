-- What is the same of a list in any order: a test of all elements, a test of all pairs, a fold whose steps commute, and the one element that a test picks. Assumes nothing.
use mathlib.Core.Path.{◌≡◌, refl, sym, ap, ◌∙◌, subst}
use mathlib.Core.Bool.{Bool, true, false, not, ◌&&◌, cond}
use mathlib.Core.Logic.{inl, inr}
use mathlib.Core.List.Permᴰ
use mathlib.Core.List.{List, [], ◌∷◌, foldr, Permᴰ}
use Prim.Native.Nat.{ℕ, zero, suc, ◌<◌}
use native.Mathlib.Nat.{eq-or-lt_of_le, le_of_suc-le-suc, not-suc-le-zero, not-le_of_lt}
use lib.Dec.{T, T_not, not_T, ltb, ltb→lt, nltb→le}
use lib.Ieee.Bits.{is_true}
use lib.Ieee.Fits.{and_l, and_r}
use Rattle.arith.specs.Lists.{every, grown, list_of, place_of}
use Rattle.arith.proofs.Lists.{every-each, each-every, place_found, place-some}
use Rattle.arith.proofs.Tests.{taken, is_false, either, iff}

-- the two last tests of three in the other order
and-swap : (a b c : Bool) → (a && b && c) ≡ (a && c && b)
and-swap true true true = refl
and-swap true true false = refl
and-swap true false true = refl
and-swap true false false = refl
and-swap false b c = refl

-- the two middle tests of four
and-middle : (a b c d : Bool) → ((a && b) && (c && d)) ≡ ((a && c) && (b && d))
and-middle true true c d = refl
and-middle true false true d = refl
and-middle true false false d = refl
and-middle false b c d = refl

module _ {A : Type 0} where
  -- the list of n elements, the last one first
  abbrev pub back_of : (ℕ → A) → ℕ → List A
  back_of f zero = []
  back_of f (suc n) = f n ∷ back_of f n

  -- whether the test holds of each element
  abbrev pub all : (A → Bool) → List A → Bool
  all t [] = true
  all t (x ∷ xs) = all t xs && t x

  -- whether the test holds of each element with each one before it
  abbrev pub pairs : (A → A → Bool) → List A → Bool
  pairs r [] = true
  pairs r (x ∷ xs) = pairs r xs && all (λ y. r y x) xs

  back-perm : (f : ℕ → A) (n : ℕ) → Permᴰ (list_of f n) (back_of f n)
  unfolding grown
  back-perm f zero = Permᴰ.nil
  back-perm f (suc n) = Permᴰ.trans (Permᴰ.middle (f n) (list_of f n) []) (Permᴰ.cons refl (Permᴰ.trans (Permᴰ.append-nil (list_of f n)) (back-perm f n)))

  every-all : (t : A → Bool) (f : ℕ → A) (n : ℕ) → every n (λ i. t (f i)) ≡ all t (back_of f n)
  unfolding every
  every-all t f zero = refl
  every-all t f (suc n) = rw (every-all t f n)

  pub every-pairs : (r : A → A → Bool) (f : ℕ → A) (n : ℕ) → every n (λ a. every a (λ b. r (f b) (f a))) ≡ pairs r (back_of f n)
  unfolding every
  every-pairs r f zero = refl
  every-pairs r f (suc n) = rw (every-pairs r f n, every-all (λ y. r y (f n)) f n)

  all-perm : (t : A → Bool) {xs ys : List A} → Permᴰ xs ys → all t xs ≡ all t ys
  all-perm t Permᴰ.nil = refl
  all-perm t (Permᴰ.cons e p) = rw (e, all-perm t p)
  all-perm t (Permᴰ.swap {a = a} {b = b} {l = l} d e) = rw (← d, ← e) (and-swap (all t l) (t b) (t a))
  all-perm t (Permᴰ.trans p q) = all-perm t p ∙ all-perm t q

  module _ (r : A → A → Bool) (r-sym : (x y : A) → r x y ≡ r y x) where
    pub pairs-perm : {xs ys : List A} → Permᴰ xs ys → pairs r xs ≡ pairs r ys
    pairs-perm Permᴰ.nil = refl
    pairs-perm (Permᴰ.cons {b = b} e p) = rw (e, pairs-perm p, all-perm (λ y. r y b) p)
    pairs-perm (Permᴰ.swap {a = a} {b = b} {b' = b'} {l = l} d e) =
        let two : A → A → Bool = λ v w. pairs r l && all (λ y. r y v) l && (all (λ y. r y w) l && r v w) in
        ap (λ (t : Bool). pairs r l && all (λ y. r y b) l && (all (λ y. r y a) l && t)) (r-sym b a)
        ∙ and-middle (pairs r l) (all (λ y. r y b) l) (all (λ y. r y a) l) (r a b)
        ∙ ap (λ (v : A). two v b) d ∙ ap (two b') e
    pairs-perm (Permᴰ.trans p q) = pairs-perm p ∙ pairs-perm q

    -- a fold whose steps commute at two elements of which the test holds
    module _ {B : Type 0} (step : A → B → B) (commutes : (x y : A) (b : B) → T (r x y) → step x (step y b) ≡ step y (step x b)) where
      pub fold-perm : (z : B) {xs ys : List A} → Permᴰ xs ys → T (pairs r xs) → foldr step z xs ≡ foldr step z ys
      fold-perm z Permᴰ.nil h = refl
      fold-perm z (Permᴰ.cons {a = a} {l₁ = l} e p) h = rw (e, fold-perm z p (and_l (pairs r l) (all (λ y. r y a) l) h))
      fold-perm z (Permᴰ.swap {a = a} {b = b} {l = l} d e) h =
          rw (← d, ← e) (commutes a b (foldr step z l) (subst T (r-sym b a) (and_r (all (λ y. r y a) l) (r b a) (and_r (pairs r l && all (λ y. r y b) l) _ h))))
      fold-perm z (Permᴰ.trans p q) h = fold-perm z p h ∙ fold-perm z q (subst T (pairs-perm p) h)

-- ---- the same of two lists of n elements, made from their places

module _ {A : Type 0} (f g : ℕ → A) (n : ℕ) (p : Permᴰ (list_of f n) (list_of g n)) where
  pub back-order : Permᴰ (back_of f n) (back_of g n)
  back-order = Permᴰ.trans (Permᴰ.symm (back-perm f n)) (Permᴰ.trans p (back-perm g n))

  pub every-order : (t : A → Bool) → every n (λ i. t (f i)) ≡ every n (λ i. t (g i))
  every-order t = every-all t f n ∙ all-perm t back-order ∙ sym (every-all t g n)

  pub pairs-order : (r : A → A → Bool) → ((x y : A) → r x y ≡ r y x) → every n (λ a. every a (λ b. r (f b) (f a))) ≡ every n (λ a. every a (λ b. r (g b) (g a)))
  pairs-order r r-sym = every-pairs r f n ∙ pairs-perm r r-sym back-order ∙ sym (every-pairs r g n)

-- ---- the one element that a test picks

-- there is a place where the test holds, unless it fails everywhere
pub place-test : (n : ℕ) (t : ℕ → Bool) → ltb (place_of n t) n ≡ not (every n (λ i. not (t i)))
place-test n t =
    iff (ltb (place_of n t) n) (not e)
    (λ h. let l = ltb→lt (place_of n t) n h in not_T e (λ k. T_not (t (place_of n t)) (every-each n (λ i. not (t i)) k (place_of n t) l) (place_found n t l)))
    (λ h. elim (either (ltb (place_of n t) n)) [
      | inl k ↦ k
      | inr k ↦ absurd (T_not e h (each-every n (λ i. not (t i)) (λ i l. not_T (t i) (λ q. not-le_of_lt (place-some n t i l q) (nltb→le (place_of n t) n k)))))
    ])
  where
    e : Bool
    e = every n (λ i. not (t i))

-- the last element of which the test holds, or z
abbrev pub pick : {A : Type 0} → (A → Bool) → A → List A → A
pick t z xs = foldr (λ x b. cond (t x) x b) z xs

-- where the test holds of no two elements
module _ {A : Type 0} (r : A → A → Bool) (r-sym : (x y : A) → r x y ≡ r y x) (t : A → Bool) (one : (x y : A) → T (t x) → T (t y) → T (r x y) → ⊥) where
  pub pick-perm : (z : A) {xs ys : List A} → Permᴰ xs ys → T (pairs r xs) → pick t z xs ≡ pick t z ys
  pick-perm z p h = fold-perm r r-sym (λ x b. cond (t x) x b) (λ x y b k. go x y b (t x) (t y) refl refl k) z p h
    where
      go : (x y b : A) (p q : Bool) → t x ≡ p → t y ≡ q → T (r x y) → cond p x (cond q y b) ≡ cond q y (cond p x b)
      go x y b true true d e k = absurd (one x y (taken d) (taken e) k)
      go x y b true false d e k = refl
      go x y b false true d e k = refl
      go x y b false false d e k = refl

  -- it is the element at any place where the test holds, so at the first
  pick_at : (z : A) (f : ℕ → A) (n : ℕ) → T (pairs r (back_of f n)) → (i : ℕ) → i < n → T (t (f i)) → pick t z (back_of f n) ≡ f i
  pick_at z f zero h i l k = absurd (not-suc-le-zero l)
  pick_at z f (suc n) h i l k =
      elim (eq-or-lt_of_le (le_of_suc-le-suc l)) [
        | inl e ↦ rw (← e, is_true (t (f i)) k)
        | inr m ↦
            let a = and_r (pairs r (back_of f n)) (all (λ y. r y (f n)) (back_of f n)) h in
            let b = every-each n (λ i. r (f i) (f n)) (subst T (sym (every-all (λ y. r y (f n)) f n)) a) i m in
            rw (is_false (t (f n)) (λ q. one (f i) (f n) k q b)) (pick_at z f n (and_l (pairs r (back_of f n)) _ h) i m k)
      ]

  pub pick-place : (z : A) (f : ℕ → A) (n : ℕ) → T (pairs r (back_of f n)) → let i = place_of n (λ i. t (f i)) in i < n → f i ≡ pick t z (back_of f n)
  pick-place z f n h l = sym (pick_at z f n h (place_of n (λ i. t (f i))) l (place_found n (λ i. t (f i)) l))
