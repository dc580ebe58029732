-- What `slot_place` and `recent_part` say where the words are a row and the slots at most 20. Assumes nothing.
use Prim.Native.Nat.{ℕ, ◌≤◌}
use mathlib.Core.Path.{◌≡◌}
use mathlib.Core.List.{List}
use lib.ListN.{length}
use borrow.Author.Tests.{le-leb, eq-eqb}
use Rattle.history_rows.specs.declared.RecentRows.{RecentRows}
use Rattle.history_rows.specs.Recent.{recent_part}
use Rattle.history_rows.specs.Rows.{width_of, row_count, older_of, recent_of}
use Rattle.history_rows.specs.Slots.{slot_with, below, slot_place}

pub place_with : (n : ℕ) (row : List ℕ) (id : ℕ) → n ≤ 20 → length row ≡ width_of n → slot_place n row id ≡ below n (slot_with n row id)
unfolding slot_place
place_with n row id h e = rw (le-leb n 20 h, eq-eqb (length row) (width_of n) e)

-- the two fields of what the function returns
pub part-start : (n : ℕ) (h : List ℕ) (r : RecentRows) → r ≡ recent_part n h → n ≤ 20 → r.start ≡ older_of n h
unfolding recent_part
part-start n h r e l = rw (e, le-leb n 20 l)

pub part-rows : (n : ℕ) (h : List ℕ) (r : RecentRows) → r ≡ recent_part n h → n ≤ 20 → r.rows ≡ row_count n (recent_of n h)
unfolding recent_part
part-rows n h r e l = rw (e, le-leb n 20 l)
