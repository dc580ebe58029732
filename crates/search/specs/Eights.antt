-- Eight candidates side by side. Definitions only.
use Rattle.std.specs.Prelude.{ℕ, zero, suc, ◌*◌, ◌<◌, List, get_or, Float}
use Rattle.std.specs.Float.{nan}
use Rattle.arith.specs.Lists.{list_of, filled}
use Rattle.lanes.specs.Rows.{eight_of, zero_row}
use Rattle.rng_util.specs.Draws.{unit_of}
use Rattle.rng_util.specs.Generator.{moved_of}
use Rattle.rng_util.specs.Generator.{Nonzero}
use Rattle.search.specs.declared.Column.{Column}
use Rattle.search.specs.declared.Search.{Search}
use Rattle.search.specs.declared.Starts.{Starts}
use Rattle.search.specs.Search.{point_of, kept_of}

-- eight generator words that no draw refuses
abbrev pub Words : List ℕ → Type 0
Words ws = (p : ℕ) → p < 8 → Nonzero (get_or ws p 0)

-- the word before each of eight points of d coordinates, and the word after them
abbrev pub starts_of : ℕ → ℕ → Starts
starts_of d w = record { words = list_of (λ p. moved_of (p * d) w) 8; next = moved_of (8 * d) w }

-- a unit float drawn at each word
abbrev pub column_of : List ℕ → Column
column_of ws = record { values = eight_of (λ p. unit_of (moved_of 1 (get_or ws p 0))); next = list_of (λ p. moved_of 1 (get_or ws p 0)) 8 }

-- the points drawn at eight words, in an array of 20 rows: row j has coordinate j of each
abbrev pub points_of : ℕ → List ℕ → List (List Float)
points_of d ws = filled zero_row 20 (list_of (λ j. eight_of (λ p. unit_of (moved_of (suc j) (get_or ws p 0)))) d)

-- the first n of the points drawn at the words, each kept where its score is above the best one; the word stays
unfoldable pub kept_each_of : ℕ → List ℕ → List Float → ℕ → Search → Search
kept_each_of d ws ei zero s = s
kept_each_of d ws ei (suc n) s = kept_of (kept_each_of d ws ei n s) (kept_each_of d ws ei n s).word (point_of d (get_or ws n 0)) (get_or ei n nan)
