-- Eight right-hand sides: each lane is the solution of its own. Definitions only.
use Rattle.std.specs.Prelude.{ℕ, List, Float}
use Rattle.factor.specs.Solve.{solution_of}
use Rattle.lanes.specs.Rows.{lane_of, lanes_of, rows_of}

-- of the first n rows
abbrev pub solutions_of : List Float → List (List Float) → ℕ → List (List Float)
solutions_of l b n = rows_of (lanes_of (λ p. solution_of l (lane_of b 100 p) n) n)
