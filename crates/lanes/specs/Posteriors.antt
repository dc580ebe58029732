-- What the posteriors of eight points are made of, side by side: from the kernel vector k of each, k · α and k · (K + σ² I)⁻¹ k. Definitions only.
use Rattle.refusal.specs.declared.Refusal.{Refusal}
use Rattle.refusal.specs.declared.Refusal.TheVariants.{OutOfDomain}
use Rattle.std.specs.Prelude.{ℕ, ◌*◌, cond, ◌&&◌, List, leb, length, Float, Result, Ok, Err}
use Rattle.lanes.specs.declared.PosteriorSums.{PosteriorSums}
use Rattle.lanes.specs.Kernels.{kernel_rows_of}
use Rattle.lanes.specs.Rows.{rows_of}
use Rattle.lanes.specs.Solving.{solutions_of}
use Rattle.lanes.specs.Sums.{dots_of, dots_each_of}

-- from the kernel vectors
abbrev pub sums_of : List (List Float) → List Float → List Float → ℕ → PosteriorSums
sums_of k l alpha n = record { means = dots_each_of k alpha n; products = dots_of k (solutions_of l k n) n }

-- of eight points, whose column j is row j of c, by the factor l and the weights of a model of n rows with a column for each lengthscale
abbrev pub at_points_of : List (List Float) → List Float → ℕ → List Float → List Float → List Float → PosteriorSums
at_points_of c x n ls l alpha = sums_of (rows_of (kernel_rows_of c x n (length ls) ls)) l alpha n

-- the same: 11 over 100 rows or 20 columns, and where rows or weights are not all there
unfoldable pub posterior_sums_of : List (List Float) → List Float → ℕ → List Float → List Float → List Float → Result PosteriorSums Refusal
posterior_sums_of c x n ls l alpha =
    cond (leb n 100 && leb (length ls) 20 && leb (n * length ls) (length x) && leb n (length alpha)) (Ok (at_points_of c x n ls l alpha)) (Err OutOfDomain)
