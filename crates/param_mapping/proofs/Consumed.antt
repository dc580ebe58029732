-- The id that a dimension is mapped to is one of the row's: a slot that is present has it, with an equal distribution. Assumes nothing.
use Rattle.std.specs.Prelude.{Option, Some, None}
use mathlib.Core.Path.{◌≡◌, refl, sym, ◌∙◌, subst}
use Prim.Native.Nat.{ℕ, zero, suc, ◌<◌}
use native.Mathlib.Omega.{arith}
use mathlib.Core.Bool.{Bool, true, false, not, cond}
use mathlib.Core.List.{List, [], ◌∷◌}
use lib.Dec.{T, ltb}
use lib.ListN.{get_or}
use lib.Ieee.Fits.{and_l}
use Rattle.arith.specs.Lists.{grown}
use Rattle.arith.proofs.Lists.{grown-read}
use Rattle.arith.proofs.Tests.{taken}
use Rattle.distribution.specs.declared.Distribution.{Distribution}
use Rattle.dimensions.specs.declared.DimensionInfo.{DimensionInfo}
use Rattle.dimensions.specs.Dimensions.{dimension_at}
use Rattle.param_mapping.specs.Mapping.{insert_by_id, entries_of, first_entry, consumed_of, matches_of, mapped_of}
use Rattle.history_rows.specs.Rows.{slot_at}
use Rattle.slots.specs.Slot.{id_of, present, slot_read, reads_equal}

-- ---- what holds of each entry

abbrev Each : (List ℕ → Type 0) → List (List ℕ) → Type 0
Each P [] = Unit
Each P (v ∷ vs) = P v × Each P vs

insert-each : (P : List ℕ → Type 0) (v : List ℕ) (ws : List (List ℕ)) → P v → Each P ws → Each P (insert_by_id v ws)
unfolding insert_by_id
insert-each P v [] p q = (p, tt)
insert-each P v (w ∷ ws) p q = go (ltb (id_of v) (id_of w)) (insert-each P v ws p q.1)
  where
    go : (b : Bool) → Each P (insert_by_id v ws) → Each P (cond b (v ∷ w ∷ ws) (w ∷ insert_by_id v ws))
    go true r = (p, q)
    go false r = (q.0, r)

-- the entries are slots that are present
entries-each : (P : List ℕ → Type 0) (row : List ℕ) (n : ℕ) → ((s : ℕ) → s < n → T (present (slot_at row s)) → P (slot_at row s)) → Each P (entries_of row n)
unfolding entries_of
entries-each P row zero f = tt
entries-each P row (suc n) f = go (present (slot_at row n)) refl (entries-each P row n (λ s l. f s (omega arith)))
  where
    go : (b : Bool) → present (slot_at row n) ≡ b → Each P (entries_of row n) → Each P (cond b (insert_by_id (slot_at row n) (entries_of row n)) (entries_of row n))
    go true e r = insert-each P (slot_at row n) (entries_of row n) (f n (omega arith) (taken e)) r
    go false e r = r

-- what follows of the id of each entry that passes the test, of the one found
found-id : (Q : ℕ → Type 0) (t : List ℕ → Bool) (vs : List (List ℕ)) → Each (λ v. T (t v) → Q (id_of v)) vs → (id : ℕ) → first_entry t vs ≡ Some id → Q id
unfolding first_entry
found-id Q t [] q id f = cc
found-id Q t (v ∷ vs) q id f = go (t v) refl (found-id Q t vs q.1 id) f
  where
    go : (b : Bool) → t v ≡ b → (first_entry t vs ≡ Some id → Q id) → cond b (Some (id_of v)) (first_entry t vs) ≡ Some id → Q id
    go true e r f = let i : id_of v ≡ id = cc in subst Q i (q.0 (taken e))
    go false e r f = r f

-- ---- a dimension's id

pub record Consumed (n : ℕ) (row : List ℕ) (d : Distribution) (id : ℕ) : Type 0 where
  pub place : ℕ
  pub below : place < n
  pub present : T (present (slot_at row place))
  pub under : id_of (slot_at row place) ≡ id
  pub equal : T (reads_equal (Some d) (slot_read (slot_at row place)))

pub consumed : (n : ℕ) (dims : List DimensionInfo) (k : ℕ) (row : List ℕ) (j : ℕ) → j < k → (id : ℕ) → get_or (mapped_of n dims k row) j None ≡ Some id
    → Consumed n row (dimension_at dims j).distribution id
unfolding mapped_of matches_of
consumed n dims k row j l id is =
    let d = (dimension_at dims j).distribution in
    let f : List (Option ℕ) → ℕ → Option ℕ = λ before i. first_entry (matches_of before i (dimension_at dims i).distribution) (entries_of row n) in
    (found-id (Consumed n row d) (matches_of (grown f j) j d) (entries_of row n)
    (entries-each (λ v. T (matches_of (grown f j) j d v) → Consumed n row d (id_of v)) row n
    (λ s b p t. record { place = s; below = b; present = p; under = refl; equal = and_l (reads_equal (Some d) (slot_read (slot_at row s))) (not (consumed_of (grown f j) j (id_of (slot_at row s)))) t }))
    id (sym (grown-read f k j None l) ∙ is))
