-- The slot of an id in a row, and the first row that has one, as they are looked up in chunks. Assumes nothing.
use Rattle.std.proofs.Common.{◌≡◌, ℕ, ◌<◌, ◌≤◌, ltb, Bool, List, [], Some, None, length, get_or, sym, ap, ◌∙◌, arith}
use Rattle.std.specs.List.{list_any, find, position, position_or_len}
use Rattle.arith.specs.Lists.{place_of}
use Rattle.arith.specs.Chunks.{chunks_of}
use Rattle.arith.proofs.Lists.{place_same}
use Rattle.arith.proofs.Passing.{first_place, any_first, find_first, find_nothing}
use Rattle.arith.proofs.Chunks.{chunk_at, chunk_count}
use Rattle.slots.specs.Slot.{has_id}
use Rattle.history_rows.specs.Chunks.{slots_in}
use Rattle.history_rows.specs.First.{first_row_with, first_slot_with}
use Rattle.history_rows.specs.Rows.{width_of, row_count, row_at, slot_at}
use Rattle.history_rows.specs.Slots.{slot_with, below}
use Rattle.history_rows.proofs.First.{first-place}
use Rattle.history_rows.proofs.Parts.{slot_count, slot_chunk, row_length}

-- ---- in a row

slot_index : (n : ℕ) (row : List ℕ) (id : ℕ) → length row ≡ width_of n → position_or_len (has_id id) (slots_in row) ≡ slot_with n row id
unfolding slot_with
slot_index n row id e =
    first_place (has_id id) (slots_in row) []
    ∙ ap (λ (k : ℕ). place_of k (λ s. has_id id (get_or (slots_in row) s []))) (slot_count n row e)
    ∙ place_same n (λ s. has_id id (get_or (slots_in row) s [])) (λ s. has_id id (slot_at row s)) (λ s h. ap (has_id id) (slot_chunk n row s [] e h))

pub slot_place_is : (n : ℕ) (row : List ℕ) (id : ℕ) → length row ≡ width_of n → position (has_id id) (slots_in row) ≡ below n (slot_with n row id)
slot_place_is n row id e = rw (slot_index n row id e, slot_count n row e)

has_one : (n : ℕ) (row : List ℕ) (id : ℕ) → length row ≡ width_of n → list_any (has_id id) (slots_in row) ≡ ltb (slot_with n row id) n
has_one n row id e =
    any_first (has_id id) (slots_in row)
    ∙ ap (λ (k : ℕ). ltb k (length (slots_in row))) (slot_index n row id e)
    ∙ ap (ltb (slot_with n row id)) (slot_count n row e)

pub slot_found : (n : ℕ) (row : List ℕ) (id : ℕ) (s : List ℕ) → length row ≡ width_of n → find (has_id id) (slots_in row) ≡ Some s → s ≡ slot_at row (slot_with n row id)
slot_found n row id s e f =
    let p = find_first (has_id id) (slots_in row) s [] f in
    let i = slot_index n row id e in
    let c = slot_count n row e in
    let l = p.0 in
    sym p.1 ∙ ap (λ (k : ℕ). get_or (slots_in row) k []) i ∙ slot_chunk n row (slot_with n row id) [] e (omega arith)

pub slot_missing : (n : ℕ) (row : List ℕ) (id : ℕ) → length row ≡ width_of n → find (has_id id) (slots_in row) ≡ None → n ≤ slot_with n row id
slot_missing n row id e f =
    let l = find_nothing (has_id id) (slots_in row) [] f in
    let i = slot_index n row id e in
    let c = slot_count n row e in
    omega arith

-- ---- in rows

module _ (n : ℕ) (r : List ℕ) (id : ℕ) where
  counted : length (chunks_of (width_of n) r) ≡ row_count n r
  unfolding row_count
  counted = chunk_count (width_of n) r

  row_is : (i : ℕ) → i < row_count n r → get_or (chunks_of (width_of n) r) i [] ≡ row_at n r i
  unfolding row_count
  row_is i h = chunk_at (width_of n) r i [] h

  row_index : position_or_len (λ row. list_any (has_id id) (slots_in row)) (chunks_of (width_of n) r) ≡ first_row_with n (row_count n r) r id
  unfolding first_row_with
  row_index =
      let q : List ℕ → Bool = λ row. list_any (has_id id) (slots_in row) in
      let cs = chunks_of (width_of n) r in
      first_place q cs []
      ∙ ap (λ (k : ℕ). place_of k (λ i. q (get_or cs i []))) counted
      ∙ place_same (row_count n r) (λ i. q (get_or cs i [])) (λ i. ltb (slot_with n (row_at n r i) id) n) (λ i h. ap q (row_is i h) ∙ has_one n (row_at n r i) id (row_length n r i h))

  pub row_found : (row : List ℕ) → find (λ row. list_any (has_id id) (slots_in row)) (chunks_of (width_of n) r) ≡ Some row
      → (first_row_with n (row_count n r) r id < row_count n r) × (row ≡ row_at n r (first_row_with n (row_count n r) r id))
  row_found row f =
      let q : List ℕ → Bool = λ row. list_any (has_id id) (slots_in row) in
      let cs = chunks_of (width_of n) r in
      let p = find_first q cs row [] f in
      let i = row_index in
      let c = counted in
      let l : first_row_with n (row_count n r) r id < row_count n r = (let k = p.0 in omega arith) in
      (l, sym p.1 ∙ ap (λ (k : ℕ). get_or cs k []) i ∙ row_is (first_row_with n (row_count n r) r id) l)

  pub row_missing : find (λ row. list_any (has_id id) (slots_in row)) (chunks_of (width_of n) r) ≡ None → row_count n r ≤ first_row_with n (row_count n r) r id
  row_missing f =
      let q : List ℕ → Bool = λ row. list_any (has_id id) (slots_in row) in
      let cs = chunks_of (width_of n) r in
      let l = find_nothing q cs [] f in
      let i = row_index in
      let c = counted in
      omega arith

  -- the slot that is found in the row that is found is the first one
  pub first_found : (row s : List ℕ) → find (λ row. list_any (has_id id) (slots_in row)) (chunks_of (width_of n) r) ≡ Some row → find (has_id id) (slots_in row) ≡ Some s
      → s ≡ first_slot_with n (row_count n r) r id
  first_found row s f g =
      let i = first_row_with n (row_count n r) r id in
      let p = row_found row f in
      let l = row_length n r i p.0 in
      slot_found n row id s (ap length p.1 ∙ l) g ∙ ap (λ (x : List ℕ). slot_at x (slot_with n x id)) p.1

  pub first_there : (row : List ℕ) → find (λ row. list_any (has_id id) (slots_in row)) (chunks_of (width_of n) r) ≡ Some row → find (has_id id) (slots_in row) ≡ None → ⊥
  first_there row f g =
      let i = first_row_with n (row_count n r) r id in
      let p = row_found row f in
      let l = row_length n r i p.0 in
      let a = slot_missing n row id (ap length p.1 ∙ l) g in
      let b = first-place n (row_count n r) r id p.0 in
      let e = ap (λ (x : List ℕ). slot_with n x id) p.1 in
      absurd (omega arith)
