-- The kernel at signal variance 1, over the rows of a table. Definitions only.
use Rattle.std.specs.Prelude.{ℕ, ◌*◌, cond, List, eqb, pos, take, drop, Float}
use Rattle.std.specs.Float.{binary64}
use Rattle.std.specs.Float.Ieee.{add, of_int}
use Rattle.arith.specs.Lists.{padded}
use Rattle.arith.specs.Outcome.{value_of}
use Rattle.factor.specs.Triangle.{rows_of}
use Rattle.kernel.specs.Matern.{matern52_of}

-- row i of a table of d columns
abbrev pub row_of : List Float → ℕ → ℕ → List Float
row_of x d i = take d (drop (i * d) x)

-- the kernel of two points; lists of one length have a value (kernel/specs/Accepts)
unfoldable pub similarity_of : List Float → List Float → List Float → Float
similarity_of x1 x2 l = value_of (matern52_of x1 x2 l (of_int binary64 (pos 1)))

-- K + σ² I: entry (i, j)
unfoldable pub covariance_of : List Float → ℕ → List Float → Float → ℕ → ℕ → Float
unfolding similarity_of
covariance_of x d l noise i j = cond (eqb i j) (add binary64 (similarity_of (row_of x d i) (row_of x d j) l) noise) (similarity_of (row_of x d i) (row_of x d j) l)

-- its lower triangle, packed
abbrev pub kernel_matrix_of : List Float → ℕ → ℕ → List Float → Float → List Float
kernel_matrix_of x n d l noise = padded 5050 (rows_of (covariance_of x d l noise) n)
