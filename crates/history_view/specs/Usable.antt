-- What is accepted is usable: training data that are not refused meet the fit's domain. A statement.
use Rattle.std.specs.Prelude.{ℕ, ◌*◌, ◌≤◌, ◌<◌, ◌≡◌, true, List, T, take, Ok}
use Rattle.std.specs.Float.{binary64}
use Rattle.std.specs.Float.Ieee.{fits}
use Rattle.distribution_words.specs.RoundTrip.{Held}
use Rattle.gp_model.specs.Fit.{fit_domain}
use Rattle.dimensions.specs.declared.DimensionInfo.{DimensionInfo}
use Rattle.dimensions.specs.Dimensions.{dimension_at}
use Rattle.history.specs.declared.Training.{Training}
use Rattle.history.specs.Training.{training_of}

-- the floats of the dimensions are binary64's, as those of a program are
pub record Usable : Type 0 where
  pub fits : (n : ℕ) (dims : List DimensionInfo) (k : ℕ) (h : List ℕ)
      → ((j : ℕ) → j < k → Held (dimension_at dims j).distribution) → ((j : ℕ) → j < k → T (fits binary64 (dimension_at dims j).lo) × T (fits binary64 (dimension_at dims j).hi))
      → (t : Training) → training_of n dims k h ≡ Ok t → 1 ≤ t.d → fit_domain (take (t.n * t.d) t.x) (take t.n t.y) t.d ≡ true
