-- What filling the table of x asks: each kept row is one of m rows and has a slot for each column. Definitions only.
use Rattle.std.specs.Prelude.{ℕ, ◌<◌, List, T, length, get_or, Option, None}
use Rattle.history_rows.specs.Rows.{row_at}
use Rattle.history.specs.Training.{covers_of}

pub record Cells (n m : ℕ) (mapping : List (Option ℕ)) (columns r kept : List ℕ) : Type 0 where
  pub row : (c : ℕ) → c < length kept → get_or kept c 0 < m
  pub column : (c : ℕ) → c < length columns → get_or columns c 0 < 20
  pub covered : (c : ℕ) → c < length kept → (j : ℕ) → j < length columns → T (covers_of n (row_at n r (get_or kept c 0)) (get_or mapping (get_or columns j 0) None))
