-- The first entry by id for which a test holds is the one of least id: what a scan through the slots finds. Assumes nothing.
use Prim.Native.Nat.{ℕ, zero, suc, ◌≤◌}
use mathlib.Core.Path.{◌≡◌, refl}
use mathlib.Core.Bool.{Bool, true, false, ◌&&◌, cond, and-false}
use mathlib.Core.List.{List, [], ◌∷◌}
use native.Mathlib.Nat.{le_trans}
use native.Mathlib.Omega.{arith}
use lib.Dec.{T, leb, ltb, leb→le, le→leb}
use lib.Ieee.Fits.{and_i, and_l, and_r}
use borrow.Author.Tests.{lt-ltb, ltb-true, ltb-false}
use Rattle.std.specs.Prelude.{Option, Some, None}
use Rattle.param_mapping.specs.Mapping.{insert_by_id, entries_of, first_entry}
use Rattle.param_mapping.specs.MappingParts.{beats_of, better_of}
use Rattle.slots.specs.Slot.{id_of}
use Rattle.history_rows.specs.Rows.{slot_at}
use Rattle.slots.specs.Slot.{present}

-- no id is below x
abbrev below : ℕ → List (List ℕ) → Bool
below x [] = true
below x (w ∷ ws) = leb x (id_of w) && below x ws

abbrev sorted : List (List ℕ) → Bool
sorted [] = true
sorted (w ∷ ws) = below (id_of w) ws && sorted ws

below-down : (x y : ℕ) (ws : List (List ℕ)) → x ≤ y → T (below y ws) → T (below x ws)
below-down x y [] l h = tt
below-down x y (w ∷ ws) l h =
    and_i (leb x (id_of w)) (below x ws) (le→leb x (id_of w) (le_trans l (leb→le y (id_of w) (and_l (leb y (id_of w)) (below y ws) h)))) (below-down x y ws l (and_r (leb y (id_of w)) (below y ws) h))

below-insert : (x : ℕ) (v : List ℕ) (ws : List (List ℕ)) → x ≤ id_of v → T (below x ws) → T (below x (insert_by_id v ws))
unfolding insert_by_id
below-insert x v [] l h = and_i (leb x (id_of v)) true (le→leb x (id_of v) l) tt
below-insert x v (w ∷ ws) l h = go (below-insert x v ws l (and_r (leb x (id_of w)) (below x ws) h)) (ltb (id_of v) (id_of w))
  where
    go : T (below x (insert_by_id v ws)) → (b : Bool) → T (below x (cond b (v ∷ w ∷ ws) (w ∷ insert_by_id v ws)))
    go f true = and_i (leb x (id_of v)) (below x (w ∷ ws)) (le→leb x (id_of v) l) h
    go f false = and_i (leb x (id_of w)) (below x (insert_by_id v ws)) (and_l (leb x (id_of w)) (below x ws) h) f

sorted_insert : (v : List ℕ) (ws : List (List ℕ)) → T (sorted ws) → T (sorted (insert_by_id v ws))
unfolding insert_by_id
sorted_insert v [] h = tt
sorted_insert v (w ∷ ws) h = go (sorted_insert v ws (and_r (below (id_of w) ws) (sorted ws) h)) (ltb (id_of v) (id_of w)) refl
  where
    least : T (below (id_of w) ws)
    least = and_l (below (id_of w) ws) (sorted ws) h

    go : T (sorted (insert_by_id v ws)) → (b : Bool) → ltb (id_of v) (id_of w) ≡ b → T (sorted (cond b (v ∷ w ∷ ws) (w ∷ insert_by_id v ws)))
    go f true e =
        let l = ltb-true (id_of v) (id_of w) e in
        and_i (below (id_of v) (w ∷ ws)) (sorted (w ∷ ws)) (and_i (leb (id_of v) (id_of w)) (below (id_of v) ws) (le→leb (id_of v) (id_of w) (omega arith)) (below-down (id_of v) (id_of w) ws (omega arith) least)) h
    go f false e = and_i (below (id_of w) (insert_by_id v ws)) (sorted (insert_by_id v ws)) (below-insert (id_of w) v ws (ltb-false (id_of v) (id_of w) e) least) f

entries_sorted : (row : List ℕ) (n : ℕ) → T (sorted (entries_of row n))
unfolding entries_of
entries_sorted row zero = tt
entries_sorted row (suc s) = go (entries_sorted row s) (present (slot_at row s))
  where
    go : T (sorted (entries_of row s)) → (b : Bool) → T (sorted (cond b (insert_by_id (slot_at row s) (entries_of row s)) (entries_of row s)))
    go h true = sorted_insert (slot_at row s) (entries_of row s) h
    go h false = h

-- what is found has no lesser id
first_below : (t : List ℕ → Bool) (x : ℕ) (ws : List (List ℕ)) → T (below x ws) → (id : ℕ) → first_entry t ws ≡ Some id → x ≤ id
unfolding first_entry
first_below t x [] h id e = cc
first_below t x (w ∷ ws) h id e = go (first_below t x ws (and_r (leb x (id_of w)) (below x ws) h) id) (t w) e
  where
    go : (first_entry t ws ≡ Some id → x ≤ id) → (b : Bool) → cond b (Some (id_of w)) (first_entry t ws) ≡ Some id → x ≤ id
    go f true e = let i : id_of w ≡ id = cc in rw (← i) (leb→le x (id_of w) (and_l (leb x (id_of w)) (below x ws) h))
    go f false e = f e

-- the better of a slot and what was found
abbrev chosen : (List ℕ → Bool) → List ℕ → Option ℕ → Option ℕ
chosen t v m = cond (t v && beats_of (id_of v) m) (Some (id_of v)) m

-- a slot before all that could be found
chosen-first : (t : List ℕ → Bool) (v : List ℕ) (m : Option ℕ) → ((id : ℕ) → m ≡ Some id → ltb (id_of v) id ≡ true) → cond (t v) (Some (id_of v)) m ≡ chosen t v m
chosen-first t v m f = go (t v) m f
  where
    go : (b : Bool) (m : Option ℕ) → ((id : ℕ) → m ≡ Some id → ltb (id_of v) id ≡ true) → cond b (Some (id_of v)) m ≡ cond (b && beats_of (id_of v) m) (Some (id_of v)) m
    go true (Some id) f = rw (f id refl)
    go true None f = refl
    go false m f = refl

first-insert : (t : List ℕ → Bool) (v : List ℕ) (ws : List (List ℕ)) → T (sorted ws) → first_entry t (insert_by_id v ws) ≡ chosen t v (first_entry t ws)
unfolding insert_by_id first_entry
first-insert t v [] h = chosen-first t v None (λ id e. cc)
first-insert t v (w ∷ ws) h = go (first-insert t v ws (and_r (below (id_of w) ws) (sorted ws) h)) (ltb (id_of v) (id_of w)) refl
  where
    go : first_entry t (insert_by_id v ws) ≡ chosen t v (first_entry t ws) → (b : Bool) → ltb (id_of v) (id_of w) ≡ b → first_entry t (cond b (v ∷ w ∷ ws) (w ∷ insert_by_id v ws)) ≡ chosen t v (first_entry t (w ∷ ws))
    go f true e =
        let l = ltb-true (id_of v) (id_of w) e in
        chosen-first t v (first_entry t (w ∷ ws)) (λ id q. let b = first_below t (id_of w) (w ∷ ws) (and_i (leb (id_of w) (id_of w)) (below (id_of w) ws) (le→leb (id_of w) (id_of w) (omega arith)) (and_l (below (id_of w) ws) (sorted ws) h)) id q in lt-ltb (id_of v) id (omega arith))
    go f false e = later f e (t w)
      where
        later : first_entry t (insert_by_id v ws) ≡ chosen t v (first_entry t ws) → ltb (id_of v) (id_of w) ≡ false → (c : Bool)
            → cond c (Some (id_of w)) (first_entry t (insert_by_id v ws)) ≡ chosen t v (cond c (Some (id_of w)) (first_entry t ws))
        later f e true = rw (e, and-false (t v))
        later f e false = f

-- a scan step
pub entries-better : (t : List ℕ → Bool) (row : List ℕ) (s : ℕ) → first_entry t (entries_of row (suc s)) ≡ better_of t (slot_at row s) (first_entry t (entries_of row s))
unfolding entries_of
entries-better t row s = go (present (slot_at row s))
  where
    go : (b : Bool) → first_entry t (cond b (insert_by_id (slot_at row s) (entries_of row s)) (entries_of row s))
        ≡ cond (b && t (slot_at row s) && beats_of (id_of (slot_at row s)) (first_entry t (entries_of row s))) (Some (id_of (slot_at row s))) (first_entry t (entries_of row s))
    go true = first-insert t (slot_at row s) (entries_of row s) (entries_sorted row s)
    go false = refl
