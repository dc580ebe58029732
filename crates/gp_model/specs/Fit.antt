-- The fit, Rasmussen and Williams, algorithm 2.1, lines 2 and 3, on standardised values. Definitions only.
use Rattle.std.specs.Prelude.{ℕ, ◌*◌, Bool, cond, ◌&&◌, List, eqb, leb, length, Float, Result, Err}
use Rattle.std.specs.Float.{binary64}
use Rattle.std.specs.Float.Ieee.{of_bits}
use Rattle.refusal.specs.declared.Refusal.{Refusal}
use Rattle.refusal.specs.declared.Refusal.TheVariants.{OutOfDomain, NoRows}
use Rattle.arith.specs.Choice.{least_of}
use Rattle.arith.specs.Lists.{padded}
use Rattle.arith.specs.Outcome.{made}
use Rattle.factor.specs.Cholesky.{cholesky_of}
use Rattle.factor.specs.Solve.{solution_of}
use Rattle.gp_model.specs.declared.Model.{Model}
use Rattle.gp_model.specs.Kernels.{kernel_matrix_of}
use Rattle.gp_model.specs.Statistics.{all_within, lengthscales_of, standardized_of}

-- "up to 100 rows, 1 to 20 columns, |x| ≤ 1e32, |y| ≤ 2^52"; the lists fit each other
unfoldable pub fit_domain : List Float → List Float → ℕ → Bool
unfolding all_within
fit_domain x y d =
    leb (length y) 100 && leb 1 d && leb d 20 && eqb (length x) (length y * d)
    && all_within (of_bits binary64 0x4693b8b5b5056e17) x && all_within (of_bits binary64 0x4330000000000000) y

-- the model of a factor: "rows, lengthscales, factor, weights and best value"
abbrev pub model_of : List Float → List Float → ℕ → List Float → Model
model_of x y d l = record {
  x_train = padded 2000 x;
  lengthscales = padded 20 (lengthscales_of x (length y) d);
  cholesky = l;
  alpha = solution_of l (padded 100 (standardized_of y)) (length y);
  f_best = least_of (standardized_of y);
  n = length y;
  d = d;
}

abbrev pub factored_of : List Float → List Float → ℕ → Result (List Float) Refusal → Result Model Refusal
factored_of x y d l = made (model_of x y d) l

-- the fit of at least one row
unfoldable pub fitted_of : List Float → List Float → ℕ → Float → Result Model Refusal
fitted_of x y d noise = factored_of x y d (cholesky_of (kernel_matrix_of x (length y) d (lengthscales_of x (length y) d) noise) (length y))

-- "else 11 (any noise is taken; 11 comes before 12)", 12 without rows, and 13 where the factor has none
unfoldable pub fit_of : List Float → List Float → ℕ → Float → Result Model Refusal
unfolding fit_domain fitted_of
fit_of x y d noise = cond (fit_domain x y d) (cond (eqb (length y) 0) (Err NoRows) (fitted_of x y d noise)) (Err OutOfDomain)
