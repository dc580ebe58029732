-- The prediction, Rasmussen and Williams, algorithm 2.1, lines 4 to 6 (2.25 and 2.26), in the Rust's order of operations. Definitions only.
use Rattle.std.specs.Prelude.{ℕ, Bool, cond, ◌&&◌, List, eqb, leb, pos, length, take, Float, Result, Ok, Err}
use Rattle.std.specs.Float.{binary64}
use Rattle.std.specs.Float.Ieee.{sub, of_bits, of_int}
use Rattle.refusal.specs.declared.Refusal.{Refusal}
use Rattle.refusal.specs.declared.Refusal.TheVariants.{OutOfDomain}
use Rattle.arith.specs.Choice.{positive_part}
use Rattle.arith.specs.Lists.{list_of, padded}
use Rattle.root.specs.Sqrt.{sqrt_of}
use Rattle.arith.specs.Sums.{products}
use Rattle.factor.specs.Solve.{solution_of}
use Rattle.gp_model.specs.declared.Model.{Model}
use Rattle.prediction.specs.declared.Posterior.{Posterior}
use Rattle.gp_model.specs.Kernels.{row_of, similarity_of}
use Rattle.gp_model.specs.Statistics.{all_within}

-- k(x*, X): the kernel of a point and each of the n rows
abbrev pub kernel_vector_of : List Float → ℕ → ℕ → List Float → List Float → List Float
kernel_vector_of x n d l p = list_of (λ i. similarity_of p (row_of x d i) l) n

-- from the similarities k to n rows: the mean k · α, and the root of 1 - k · (K + σ² I)⁻¹ k, held to 0 from below
unfoldable pub posterior_mean_of : List Float → ℕ → List Float → Float
posterior_mean_of alpha n k = products k (take n alpha)

unfoldable pub posterior_std_of : List Float → ℕ → List Float → Float
posterior_std_of cholesky n k = sqrt_of (positive_part (sub binary64 (of_int binary64 (pos 1)) (products k (take n (solution_of cholesky (padded 100 k) n)))))

abbrev pub from_of : List Float → List Float → ℕ → List Float → Posterior
from_of cholesky alpha n k = record { mean = posterior_mean_of alpha n k; std = posterior_std_of cholesky n k }

-- of a model's parts at a point
abbrev pub posterior_of : List Float → List Float → List Float → List Float → ℕ → ℕ → List Float → Posterior
posterior_of x lengthscales cholesky alpha n d p = from_of cholesky alpha n (kernel_vector_of x n d (take d lengthscales) p)

abbrev pub posterior_at : Model → List Float → Posterior
posterior_at m p = posterior_of m.x_train m.lengthscales m.cholesky m.alpha m.n m.d p

-- "a model of 1 to 100 rows and 1 to 20 columns"
unfoldable pub counts_fit : ℕ → ℕ → Bool
counts_fit n d = leb 1 n && leb n 100 && leb 1 d && leb d 20

-- "its column count and |x| ≤ 1e32, else 11"
unfoldable pub predict_of : Model → List Float → Result Posterior Refusal
unfolding counts_fit all_within
predict_of m p = cond (counts_fit m.n m.d && eqb (length p) m.d && all_within (of_bits binary64 0x4693b8b5b5056e17) p) (Ok (posterior_at m p)) (Err OutOfDomain)
