-- Slots of different ids are put into a sorted list in any order. Assumes nothing.
use mathlib.Core.Path.{◌≡◌, refl}
use mathlib.Core.Bool.{Bool, true, false, not, cond}
use mathlib.Core.List.{List, [], ◌∷◌}
use Prim.Native.Nat.{ℕ}
use native.Mathlib.Omega.{arith}
use lib.Dec.{ltb}
use borrow.Author.Tests.{ltb-true, ltb-false, lt-ltb, le-ltb}
use Rattle.slots.specs.Slot.{id_of}
use Rattle.param_mapping.specs.Mapping.{insert_by_id}

-- of two different numbers one is below the other
other : (a b : ℕ) → (a ≡ b → ⊥) → ltb b a ≡ not (ltb a b)
other a b ne = go (ltb a b) refl
  where
    go : (p : Bool) → ltb a b ≡ p → ltb b a ≡ not p
    go true e = let l = ltb-true a b e in le-ltb b a (omega arith)
    go false e = let l = ltb-false a b e in lt-ltb b a (omega arith)

cond-not : {A : Type 0} (p : Bool) (x y : A) → cond p x y ≡ cond (not p) y x
cond-not true x y = refl
cond-not false x y = refl

module _ (v w : List ℕ) (ne : id_of v ≡ id_of w → ⊥) where
  pub insert-swap : (xs : List (List ℕ)) → insert_by_id v (insert_by_id w xs) ≡ insert_by_id w (insert_by_id v xs)
  unfolding insert_by_id
  insert-swap [] = rw (other (id_of v) (id_of w) ne) (cond-not (ltb (id_of v) (id_of w)) (v ∷ w ∷ []) (w ∷ v ∷ []))
  insert-swap (x ∷ xs) = go (ltb (id_of v) (id_of x)) (ltb (id_of w) (id_of x)) refl refl (insert-swap xs)
    where
      go : (p q : Bool) → ltb (id_of v) (id_of x) ≡ p → ltb (id_of w) (id_of x) ≡ q → insert_by_id v (insert_by_id w xs) ≡ insert_by_id w (insert_by_id v xs)
          → insert_by_id v (cond q (w ∷ x ∷ xs) (x ∷ insert_by_id w xs)) ≡ insert_by_id w (cond p (v ∷ x ∷ xs) (x ∷ insert_by_id v xs))
      go true true d e f = rw (d, e, other (id_of v) (id_of w) ne) (cond-not (ltb (id_of v) (id_of w)) (v ∷ w ∷ x ∷ xs) (w ∷ v ∷ x ∷ xs))
      go true false d e f = let a = ltb-true (id_of v) (id_of x) d in let b = ltb-false (id_of w) (id_of x) e in rw (d, e, le-ltb (id_of w) (id_of v) (omega arith))
      go false true d e f = let a = ltb-false (id_of v) (id_of x) d in let b = ltb-true (id_of w) (id_of x) e in rw (d, e, le-ltb (id_of v) (id_of w) (omega arith))
      go false false d e f = rw (d, e, f)
