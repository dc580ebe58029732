-- The kernel of eight points and the rows of a table: row i of lane p is the kernel of point p and row i. Definitions only.
use Rattle.std.specs.Prelude.{ℕ, ◌+◌, ◌*◌, List, pos, get_or, take, drop, Float}
use Rattle.std.specs.Float.{nan, binary64}
use Rattle.std.specs.Float.Ieee.{sub, div, of_int}
use Rattle.arith.specs.Lists.{list_of}
use Rattle.arith.specs.Outcome.{value_of}
use Rattle.kernel.specs.Matern.{square, matern52_of}
use Rattle.lanes.specs.Rows.{cell, eight_of, lane_of}

-- what column j adds to the squared distance of point p and row i
abbrev pub distance_term : List (List Float) → List Float → ℕ → List Float → ℕ → ℕ → ℕ → Float
distance_term c x d l i p j = square (div binary64 (sub binary64 (cell c j p) (get_or x (i * d + j) nan)) (get_or l j nan))

abbrev pub kernel_rows_of : List (List Float) → List Float → ℕ → ℕ → List Float → List (List Float)
kernel_rows_of c x n d l = list_of (λ i. eight_of (λ p. value_of (matern52_of (lane_of c d p) (take d (drop (i * d) x)) l (of_int binary64 (pos 1))))) n
