-- How many rows and columns training data that are not refused have at most, and how long their arrays are. A statement.
use Rattle.std.specs.Prelude.{◌≤◌, ◌≡◌, length}
use Rattle.history.specs.declared.Training.{Training}

pub record Counts (t : Training) : Type 0 where
  pub rows : t.n ≤ 100
  pub columns : t.d ≤ 20
  pub x : length t.x ≡ 2000
  pub y : length t.y ≡ 100
