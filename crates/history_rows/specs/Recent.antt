-- Where the recent rows start and how many there are, for slots up to 20. Definitions only.
use Rattle.std.specs.Prelude.{ℕ, cond, List, leb}
use Rattle.history_rows.specs.declared.RecentRows.{RecentRows}
use Rattle.history_rows.specs.Rows.{row_count, older_of, recent_of}

-- of slots over 20, which are refused, none
unfoldable pub recent_part : ℕ → List ℕ → RecentRows
unfolding row_count recent_of
recent_part n h = cond (leb n 20) (record { start = older_of n h; rows = row_count n (recent_of n h) }) (record { start = 0; rows = 0 })
