-- The mapping in an array of 20 places: the next dimension's id is written behind those before it. Assumes nothing.
use Rattle.std.specs.Prelude.{Option, None}
use Prim.Native.Nat.{ℕ, zero, suc, ◌+◌, ◌*◌, ◌≤◌, ◌<◌}
use native.Mathlib.Omega.{arith}
use mathlib.Core.Path.{◌≡◌, refl, sym, ap, ◌∙◌, subst}
use mathlib.Core.Bool.{cond}
use mathlib.Core.List.{List, [], ◌∷◌}
use lib.ListN.{length, set, take, replicate, get_or-replicate}
use lib.Seq.{take-nil, drop-nil, set-get_or}
use Rattle.arith.specs.Lists.{grown, filled}
use Rattle.arith.proofs.Lists.{grown-length, grown-filled-set, filled-take}
use Rattle.dimensions.specs.declared.DimensionInfo.{DimensionInfo}
use Rattle.dimensions.specs.Dimensions.{dimension_at}
use Rattle.param_mapping.specs.Mapping.{insert_by_id, entries_of, first_entry, matches_of, mapped_of}
use Rattle.history_rows.specs.Rows.{width_of, row_at, slot_at}
use Rattle.slots.specs.Slot.{present}

pub mapped-length : (n : ℕ) (dims : List DimensionInfo) (k : ℕ) (row : List ℕ) → length (mapped_of n dims k row) ≡ k
unfolding mapped_of
mapped-length n dims k row = grown-length (λ before j. first_entry (matches_of before j (dimension_at dims j).distribution) (entries_of row n)) k

-- the ids that the array holds
pub mapped-take : (n : ℕ) (dims : List DimensionInfo) (j : ℕ) (row : List ℕ) → take j (filled None 20 (mapped_of n dims j row)) ≡ mapped_of n dims j row
mapped-take n dims j row =
    let before = mapped_of n dims j row in
    subst (λ (k : ℕ). take k (filled None 20 before) ≡ before) (mapped-length n dims j row) (filled-take None 20 before)

pub mapped-set : (n : ℕ) (dims : List DimensionInfo) (j : ℕ) (row : List ℕ) → j < 20 → let before = mapped_of n dims j row in
    set (filled None 20 before) j (first_entry (matches_of before (length before) (dimension_at dims j).distribution) (entries_of row n)) ≡ filled None 20 (mapped_of n dims (suc j) row)
unfolding mapped_of
mapped-set n dims j row h =
    let before = mapped_of n dims j row in
    ap (λ (k : ℕ). set (filled None 20 before) j (first_entry (matches_of before k (dimension_at dims j).distribution) (entries_of row n))) (mapped-length n dims j row)
    ∙ grown-filled-set None 20 (λ before j. first_entry (matches_of before j (dimension_at dims j).distribution) (entries_of row n)) j h

-- ---- a row of no words

no-slot : (n : ℕ) → slot_at [] n ≡ []
no-slot n = ap (take 8) (drop-nil {A = ℕ} (3 + 8 * n)) ∙ take-nil {A = ℕ} 8

no-entries : (n : ℕ) → entries_of [] n ≡ []
unfolding entries_of
no-entries zero = refl
no-entries (suc n) =
    subst (λ (s : List ℕ). cond (present s) (insert_by_id s (entries_of [] n)) (entries_of [] n) ≡ []) (sym (no-slot n)) (no-entries n)

pub mapped-none : (n : ℕ) (dims : List DimensionInfo) (k : ℕ) → k ≤ 20 → filled None 20 (mapped_of n dims k []) ≡ filled None 20 []
mapped-none n dims zero h = unfold mapped_of grown in refl
mapped-none n dims (suc j) h =
    sym (mapped-set n dims j [] (omega arith))
    ∙ rw (mapped-none n dims j (omega arith), no-entries n) (unfold first_entry in ap (λ (m : Option ℕ). set (replicate 20 None) j m) (sym (get_or-replicate 20 j None None (omega arith))) ∙ set-get_or (replicate 20 None) j None)

-- the first of no rows
pub no_row : (n : ℕ) (r : List ℕ) → length r ≡ 0 → row_at n r 0 ≡ []
no_row n [] e = ap (take (width_of n)) (drop-nil {A = ℕ} (0 * width_of n)) ∙ take-nil {A = ℕ} (width_of n)
no_row n (x ∷ r) e = absurd (omega arith)
