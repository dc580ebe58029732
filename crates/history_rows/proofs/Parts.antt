-- The parts of a list that the code lends: a row of its words, a slot of a row. Assumes nothing.
use Prim.Native.Nat.{ℕ, ◌+◌, ◌-◌, ◌*◌, ◌≤◌, ◌<◌}
use mathlib.Core.Path.{◌≡◌, ap, ◌∙◌}
use mathlib.Core.Bool.{Bool, not}
use mathlib.Core.List.{List, []}
use Prim.Native.Nat.{◌/◌}
use Rattle.std.specs.List.{list_all, enumerate_from}
use Rattle.std.proofs.lemmas.List.FromFn.{length-enumerate_from, get_or-enumerate_from}
use Rattle.slots.specs.Slot.{same_id}
use Rattle.history_rows.specs.Tests.{ids_once}
use Rattle.arith.specs.Lists.{every}
use Rattle.arith.specs.Chunks.{chunks_of}
use Rattle.arith.proofs.Lists.{every-same, row-end}
use Rattle.arith.proofs.Passing.{all_every, all_front}
use Rattle.arith.proofs.Chunks.{chunk_at, chunk_count}
use Rattle.history_rows.specs.Chunks.{slots_in}
use Rattle.history_rows.specs.Rows.{width_of, row_count, row_at, slot_at}
use native.Mathlib.Nat.{mul-div_cancel, div-mul-le_self, add-sub_cancel_left}
use native.Mathlib.Omega.{arith}
use lib.ListN.{length, get_or, take, drop, length-drop}
use lib.Seq.{drop-drop, length-take-le}

-- w words from the place at
pub part : (w : ℕ) (r : List ℕ) (at : ℕ) → take (at + w - at) (drop at r) ≡ take w (drop at r)
part w r at = rw (add-sub_cancel_left at w)

pub part_length : (w : ℕ) (r : List ℕ) (at : ℕ) → at + w ≤ length r → length (take w (drop at r)) ≡ w
part_length w r at h = length-take-le w (drop at r) (rw (length-drop at r) (omega arith))

pub lent_length : (w : ℕ) (r : List ℕ) (at : ℕ) → at + w ≤ length r → length (take (at + w - at) (drop at r)) ≡ w
lent_length w r at h = rw (part w r at) (part_length w r at h)

-- ---- a row's slots and a history's rows, as chunks

pub slot_count : (n : ℕ) (row : List ℕ) → length row ≡ width_of n → length (slots_in row) ≡ n
slot_count n row e =
    chunk_count 8 (drop 3 row)
    ∙ ap (λ (k : ℕ). k / 8) (let l = length-drop 3 row in let m : length (drop 3 row) ≡ n * 8 = omega arith in m)
    ∙ mul-div_cancel n (let l : 0 < 8 = omega arith in l)

pub slot_chunk : (n : ℕ) (row : List ℕ) (s : ℕ) (d : List ℕ) → length row ≡ width_of n → s < n → get_or (slots_in row) s d ≡ slot_at row s
slot_chunk n row s d e h =
    chunk_at 8 (drop 3 row) s d (let k = slot_count n row e in let l = chunk_count 8 (drop 3 row) in omega arith)
    ∙ ap (take 8) (drop-drop (s * 8) 3 row ∙ ap (λ (k : ℕ). drop k row) (omega arith))

pub slots_all : (p : List ℕ → Bool) (n : ℕ) (row : List ℕ) → length row ≡ width_of n → list_all p (slots_in row) ≡ every n (λ s. p (slot_at row s))
slots_all p n row e = all_every p (slots_in row) [] n (slot_count n row e) ∙ every-same n _ _ (λ s h. ap p (slot_chunk n row s [] e h))

pub row_length : (n : ℕ) (r : List ℕ) (i : ℕ) → i < row_count n r → length (row_at n r i) ≡ width_of n
unfolding row_count
row_length n r i h = part_length (width_of n) r (i * width_of n) (let a = row-end i (length r / width_of n) (width_of n) h in let b = div-mul-le_self (length r) (width_of n) in omega arith)

-- a test of each row, by another that is the same of rows of that width
pub rows_all : (p q : List ℕ → Bool) (n : ℕ) (r : List ℕ) → ((row : List ℕ) → length row ≡ width_of n → p row ≡ q row)
    → list_all p (chunks_of (width_of n) r) ≡ every (row_count n r) (λ i. q (row_at n r i))
rows_all p q n r h =
    all_every p (chunks_of (width_of n) r) [] (row_count n r) (unfold row_count in chunk_count (width_of n) r)
    ∙ every-same (row_count n r) _ _ (λ i l. ap p (chunk_at (width_of n) r i [] (unfold row_count in l)) ∙ h (row_at n r i) (row_length n r i l))

-- each slot with its index, and the slots before it
pub ids_same : (n : ℕ) (row : List ℕ) → length row ≡ width_of n
    → list_all (λ (p : ℕ × List ℕ). list_all (λ (b : List ℕ). not (same_id b p.1)) (take p.0 (slots_in row))) (enumerate_from 0 (slots_in row)) ≡ ids_once n row
unfolding ids_once
ids_same n row e =
    all_every new (enumerate_from 0 ss) (0, []) n (length-enumerate_from 0 ss ∙ slot_count n row e)
    ∙ every-same n (λ a. new (get_or (enumerate_from 0 ss) a (0, []))) (λ a. every a (λ b. not (same_id (slot_at row b) (slot_at row a)))) (λ a h. one a h)
  where
    ss : List (List ℕ)
    ss = slots_in row

    new : ℕ × List ℕ → Bool
    new p = list_all (λ (b : List ℕ). not (same_id b p.1)) (take p.0 ss)

    one : (a : ℕ) → a < n → new (get_or (enumerate_from 0 ss) a (0, [])) ≡ every a (λ b. not (same_id (slot_at row b) (slot_at row a)))
    one a h =
        let c = slot_count n row e in
        let l : a < length ss = omega arith in
        let z : 0 + a ≡ a = omega arith in
        ap new (get_or-enumerate_from 0 ss a (0, []) l)
        ∙ ap (λ (k : ℕ). list_all (λ (b : List ℕ). not (same_id b (get_or ss a []))) (take k ss)) z
        ∙ all_front (λ (b : List ℕ). not (same_id b (get_or ss a []))) ss [] a (omega arith)
        ∙ every-same a (λ b. not (same_id (get_or ss b []) (get_or ss a []))) (λ b. not (same_id (slot_at row b) (slot_at row a)))
        (λ b k. ap (λ (v : List ℕ). not (same_id v (get_or ss a []))) (slot_chunk n row b [] e (omega arith)) ∙ ap (λ (v : List ℕ). not (same_id (slot_at row b) v)) (slot_chunk n row a [] e h))
