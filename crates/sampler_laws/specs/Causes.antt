-- Document 01's table of causes, for each call as a list in the order of the tests: the number, and whether its cause
-- holds. Nothing here speaks of how a call is served. Definitions only.
use Rattle.std.specs.Prelude.{ℕ, Bool, not, ◌&&◌, cond, List, [], ◌∷◌, eqb, length, is_some, Float}
use Rattle.arith.specs.Lists.{every}
use Rattle.factor.specs.Cholesky.{positive}
use Rattle.factor.specs.Triangle.{entry}
use Rattle.history_rows.specs.Rows.{whole_rows, row_count, recent_of, row_at}
use Rattle.history_rows.specs.Tests.{row_ok, slots_ok, ids_once, rows_agreeing}
use Rattle.gp_model.specs.Fit.{fit_domain}
use Rattle.gp_model.specs.Kernels.{kernel_matrix_of}
use Rattle.gp_model.specs.Statistics.{lengthscales_of}
use Rattle.sampler_state.specs.declared.Sampler.{Sampler}
use Rattle.sampler_state.specs.State.{trial_place, taken_count, sampler_ok}
use Rattle.sampler_laws.specs.NewTrials.{past_discovery}
use Rattle.sampler_laws.specs.Runs.{asks, closes, Call, read_asked}

-- the number of the first cause that holds, or 0
abbrev pub first_cause : List (ℕ × Bool) → ℕ
first_cause [] = 0
first_cause (t ∷ ts) = cond t.1 t.0 (first_cause ts)

-- "refused first, with 11", then "2 to 7 each over all recent rows, lowest number first, in both phases, then 8 or 9";
-- for a close 11 and 10
unfoldable pub cause_of : Sampler → Call → ℕ
cause_of s (asks d trial h) =
    let n = s.settings.slots in
    let recent = recent_of n h in
    let m = row_count n recent in
    first_cause (
    (11, not (sampler_ok s))
    ∷ (2, not (is_some (read_asked d)))
    ∷ (3, not (whole_rows n h))
    ∷ (4, not (every m (λ i. row_ok (row_at n recent i))))
    ∷ (5, not (every m (λ i. slots_ok n (row_at n recent i))))
    ∷ (6, not (every m (λ i. ids_once n (row_at n recent i))))
    ∷ (7, not (every m (λ i. every m (λ j. rows_agreeing n (row_at n recent i) (row_at n recent j)))))
    ∷ (8, not (past_discovery s trial) && eqb s.dimensions.count 20)
    ∷ (9, past_discovery s trial && eqb (trial_place s.places trial) 32 && eqb (taken_count s.places) 32)
    ∷ []
    )
cause_of s (closes trial) = first_cause ((11, not (sampler_ok s)) ∷ (10, eqb (trial_place s.places trial) 32) ∷ [])

-- of a fit: "else 11 (any noise is taken; 11 comes before 12)", 12 with no rows, 13 for a pivot of the rows' kernel matrix
-- that is not above 0
unfoldable pub fit_cause_of : List Float → List Float → ℕ → Float → ℕ
fit_cause_of x y d noise =
    let n = length y in
    first_cause (
    (11, not (fit_domain x y d))
    ∷ (12, eqb n 0)
    ∷ (13, not (positive (entry (kernel_matrix_of x n d (lengthscales_of x n d) noise)) n))
    ∷ []
    )
