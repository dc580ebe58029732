-- Two rows that agree pass the same tests and, where no id stands twice, have the same mapping and the same slot under each id. Assumes nothing.
use Rattle.std.specs.Prelude.{Option, Some, None}
use native.Mathlib.Omega.{arith}
use mathlib.Core.Path.{◌≡◌, refl, sym, ap, ◌∙◌, subst}
use mathlib.Core.Bool.{Bool, true, false, not, ◌&&◌, cond}
use mathlib.Core.List.{List, [], foldr, Permᴰ}
use mathlib.Core.Logic.{inl, inr}
use Prim.Native.Nat.{ℕ, zero, suc}
use lib.Dec.{T, T_not, leb, ltb, eqb→eq, ltb→lt}
use lib.ListN.{length, get_or}
use lib.Ieee.Fits.{and_i, eq→eqb}
use borrow.Author.Tests.{le-leb}
use Rattle.arith.specs.Lists.{every}
use Rattle.arith.proofs.Lists.{every-same}
use Rattle.arith.proofs.Tests.{taken, iff}
use Rattle.distribution.proofs.Facts.{parts}
use Rattle.dimensions.specs.declared.DimensionInfo.{DimensionInfo}
use Rattle.history_rows.specs.Rows.{slot_at, state_of}
use Rattle.slots.specs.Slot.{id_of}
use Rattle.slots.specs.Slot.{present, same_id, slot_ok, agreeing}
use Rattle.history_rows.specs.Tests.{row_ok, slots_ok, ids_once, rows_agreeing}
use Rattle.param_mapping.specs.Mapping.{insert_by_id, entries_of, mapped_of}
use Rattle.slots.specs.Slot.{has_id}
use Rattle.history_rows.specs.Slots.{slot_with}
use Rattle.history.specs.Training.{mapped_place, covers_of, trains_of, column_of}
use Rattle.history.specs.RowsAgree.{RowsAgree}
use Rattle.history.proofs.Perm.{back_of, pairs, every-pairs, back-order, every-order, pairs-order, pairs-perm, fold-perm, place-test, pick, pick-perm, pick-place}
use Rattle.param_mapping.proofs.Sorted.{insert-swap}

-- a row's slots, the last one first
abbrev slots : ℕ → List ℕ → List (List ℕ)
slots n row = back_of (λ s. slot_at row s) n

-- ---- two slots that are not both present under one id

abbrev apart : List ℕ → List ℕ → Bool
apart x y = not (same_id x y)

apart-sym : (x y : List ℕ) → apart x y ≡ apart y x
apart-sym x y = ap not (iff (same_id x y) (same_id y x) (back x y) (back y x))
  where
    back : (x y : List ℕ) → T (same_id x y) → T (same_id y x)
    back x y h =
        let a : T (present x) = search parts in
        let b : T (present y) = search parts in
        let c = eq→eqb (sym (eqb→eq (id_of x) (id_of y) (search parts))) in
        search and_i

one-slot : (id : ℕ) (x y : List ℕ) → T (has_id id x) → T (has_id id y) → T (apart x y) → ⊥
one-slot id x y h k q =
    let a : T (present x) = search parts in
    let b : T (present y) = search parts in
    let c = eq→eqb (eqb→eq (id_of x) id (search parts) ∙ sym (eqb→eq (id_of y) id (search parts))) in
    T_not (same_id x y) q (search and_i)

-- ---- entries, added slot by slot

add_entry : List ℕ → List (List ℕ) → List (List ℕ)
add_entry x xs = cond (present x) (insert_by_id x xs) xs

add-swap : (x y : List ℕ) (xs : List (List ℕ)) → T (apart x y) → add_entry x (add_entry y xs) ≡ add_entry y (add_entry x xs)
unfolding add_entry
add-swap x y xs h = go (present x) (present y) refl refl
  where
    go : (p q : Bool) → present x ≡ p → present y ≡ q
        → let vs = cond p (insert_by_id x xs) xs in let ws = cond q (insert_by_id y xs) xs in cond p (insert_by_id x ws) ws ≡ cond q (insert_by_id y vs) vs
    go true true d e = insert-swap x y (λ q. T_not (same_id x y) h (and_i (present x && present y) _ (and_i (present x) _ (taken d) (taken e)) (eq→eqb q))) xs
    go true false d e = refl
    go false true d e = refl
    go false false d e = refl

entries-fold : (row : List ℕ) (n : ℕ) → entries_of row n ≡ foldr add_entry [] (slots n row)
unfolding entries_of add_entry
entries-fold row zero = refl
entries-fold row (suc n) = rw (entries-fold row n)

-- ---- two rows

module _ (n : ℕ) (a b : List ℕ) (p : RowsAgree n a b) where
  order : Permᴰ (slots n a) (slots n b)
  order = back-order (λ s. slot_at a s) (λ s. slot_at b s) n p.slots

  -- a test of each slot
  pub each-slot : (t : List ℕ → Bool) → every n (λ s. t (slot_at a s)) ≡ every n (λ s. t (slot_at b s))
  each-slot t = every-order (λ s. slot_at a s) (λ s. slot_at b s) n p.slots t

  pub row_same : row_ok a ≡ row_ok b
  unfolding row_ok
  row_same = rw (p.objective, state)
    where
      state : leb (state_of a) 3 ≡ leb (state_of b) 3
      state = elim p.state [ inl e ↦ ap (λ s. leb s 3) e | inr q ↦ le-leb (state_of a) 3 q.0 ∙ sym (le-leb (state_of b) 3 q.1) ]

  pub slots_same : slots_ok n a ≡ slots_ok n b
  unfolding slots_ok
  slots_same = each-slot slot_ok

  pub ids-same : ids_once n a ≡ ids_once n b
  unfolding ids_once
  ids-same = pairs-order (λ s. slot_at a s) (λ s. slot_at b s) n p.slots apart apart-sym

  -- an id is found in both rows or in neither
  found-same : (id : ℕ) → ltb (slot_with n a id) n ≡ ltb (slot_with n b id) n
  unfolding slot_with
  found-same id = place-test n (λ s. has_id id (slot_at a s)) ∙ ap not (each-slot (λ v. not (has_id id v))) ∙ sym (place-test n (λ s. has_id id (slot_at b s)))

  covers-same : (id : Option ℕ) → covers_of n a id ≡ covers_of n b id
  unfolding covers_of
  covers-same (Some id) = found-same id
  covers-same None = refl

  pub trains-same : (mapping : List (Option ℕ)) (columns : List ℕ) → trains_of n mapping columns a ≡ trains_of n mapping columns b
  unfolding trains_of
  trains-same mapping columns = every-same (length columns) _ _ (λ c l. covers-same (get_or mapping (get_or columns c 0) None))

  -- where no id stands twice in the row
  module _ (ids : T (ids_once n a)) where
    different : T (pairs apart (slots n a))
    unfolding ids_once
    different = subst T (every-pairs apart (λ s. slot_at a s) n) ids

    entries-same : entries_of a n ≡ entries_of b n
    entries-same = entries-fold a n ∙ fold-perm apart apart-sym add_entry add-swap [] order different ∙ sym (entries-fold b n)

    pub mapped-same : (dims : List DimensionInfo) (k : ℕ) → mapped_of n dims k a ≡ mapped_of n dims k b
    unfolding mapped_of
    mapped-same dims k = rw entries-same

    slot_same : (id : ℕ) → T (ltb (slot_with n a id) n) → slot_at a (slot_with n a id) ≡ slot_at b (slot_with n b id)
    unfolding slot_with
    slot_same id h =
        at a different h ∙ pick-perm apart apart-sym (has_id id) (one-slot id) [] order different
        ∙ sym (at b (subst T (pairs-perm apart apart-sym order) different) (subst T (found-same id) h))
      where
        at : (row : List ℕ) → T (pairs apart (slots n row)) → T (ltb (slot_with n row id) n) → slot_at row (slot_with n row id) ≡ pick (has_id id) [] (slots n row)
        at row d l = pick-place apart apart-sym (has_id id) (one-slot id) [] (λ s. slot_at row s) n d (ltb→lt (slot_with n row id) n l)

    mapped-slot : (id : Option ℕ) → T (covers_of n a id) → slot_at a (mapped_place n a id) ≡ slot_at b (mapped_place n b id)
    unfolding covers_of
    mapped-slot (Some id) h = slot_same id h
    mapped-slot None h = let l = ltb→lt n n h in absurd (omega arith)

    pub column-same : (dims : List DimensionInfo) (mapping : List (Option ℕ)) (j : ℕ) → T (covers_of n a (get_or mapping j None)) → column_of n dims mapping a j ≡ column_of n dims mapping b j
    unfolding column_of
    column-same dims mapping j h = rw (mapped-slot (get_or mapping j None) h)

-- ---- two rows with two others

pub agreeing-same : (n : ℕ) (a b c d : List ℕ) → RowsAgree n a b → RowsAgree n c d → rows_agreeing n a c ≡ rows_agreeing n b d
unfolding rows_agreeing
agreeing-same n a b c d p q =
    every-same n _ _ (λ s l. each-slot n c d q (agreeing (slot_at a s))) ∙ each-slot n a b p (λ v. every n (λ u. agreeing v (slot_at d u)))
