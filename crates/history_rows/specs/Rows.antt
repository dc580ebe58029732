-- A history: "rows of 3 + 8n words", n the setting slots. "A row is trial number, state .., objective .., then n slots: parameter id, distribution, taken value." Definitions only.
use Rattle.std.specs.Prelude.{ℕ, ◌+◌, ◌-◌, ◌*◌, ◌/◌, ◌%◌, Bool, cond, List, eqb, leb, length, get_or, take, drop}
use Rattle.arith.specs.Lists.{list_of}

-- how many words a row of n slots has
abbrev pub width_of : ℕ → ℕ
width_of n = 3 + 8 * n

unfoldable pub whole_rows : ℕ → List ℕ → Bool
whole_rows n h = eqb (length h % width_of n) 0

unfoldable pub row_count : ℕ → List ℕ → ℕ
row_count n h = length h / width_of n

-- "Recent rows are the last 100, or all if fewer; older words are never read."
unfoldable pub recent_count : ℕ → List ℕ → ℕ
unfolding row_count
recent_count n h = cond (leb (row_count n h) 100) (row_count n h) 100

-- how many older words there are
abbrev pub older_of : ℕ → List ℕ → ℕ
older_of n h = (row_count n h - recent_count n h) * width_of n

-- the words of the recent rows; what follows speaks of these alone
unfoldable pub recent_of : ℕ → List ℕ → List ℕ
unfolding row_count recent_count
recent_of n h = drop (older_of n h) h

-- row i of the words r
abbrev pub row_at : ℕ → List ℕ → ℕ → List ℕ
row_at n r i = take (width_of n) (drop (i * width_of n) r)

abbrev pub state_of : List ℕ → ℕ
state_of row = get_or row 1 0

abbrev pub objective_of : List ℕ → ℕ
objective_of row = get_or row 2 0

-- slot s of a row: eight words, 0 the id, 1 to 6 the distribution, 7 the taken value
abbrev pub slot_at : List ℕ → ℕ → List ℕ
slot_at row s = take 8 (drop (3 + 8 * s) row)

abbrev pub slots_of : ℕ → List ℕ → List (List ℕ)
slots_of n row = list_of (λ s. slot_at row s) n
