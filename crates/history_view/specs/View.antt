-- What a sampler sees of a history: whether its rows, all of them, reach the start-up count, and the training data. Definitions only.
use Rattle.refusal.specs.declared.Refusal.{Refusal}
use Rattle.std.specs.Prelude.{ℕ, Bool, false, List, [], leb, Result, Ok, Err}
use Rattle.std.specs.Result.{result_unwrap_or}
use Rattle.history.specs.declared.Training.{Training}
use Rattle.dimensions.specs.declared.DimensionInfo.{DimensionInfo}
use Rattle.history_view.specs.declared.View.{View}
use Rattle.history_rows.specs.Rows.{row_count}
use Rattle.history.specs.Training.{training_of}

-- "Rows reaching start-up are counted over the whole history."
abbrev pub reaches_of : ℕ → ℕ → List ℕ → Bool
reaches_of n startup h = leb startup (row_count n h)

-- by training data; their refusal is passed on
abbrev pub viewed : Bool → Result Training Refusal → Result View Refusal
viewed reached (Ok t) = Ok (record { reached = reached; training = t })
viewed reached (Err r) = Err r

unfoldable pub view_of : ℕ → ℕ → List DimensionInfo → ℕ → List ℕ → Result View Refusal
unfolding row_count training_of
view_of n startup dims k h = viewed (reaches_of n startup h) (training_of n dims k h)

-- what is seen of a history: no row and no column where it is refused
abbrev pub no_view : View
no_view = record { reached = false; training = record { n = 0; d = 0; x = []; y = [] } }

abbrev pub seen_of : ℕ → ℕ → List DimensionInfo → ℕ → List ℕ → View
seen_of n startup dims k h = result_unwrap_or (view_of n startup dims k h) no_view
