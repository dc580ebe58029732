-- When two histories agree, in the words of demand 3 and of document 01, what is then the same, and what may differ. Definitions and statements only.
use mathlib.Core.List.{Permᴰ}
use Rattle.std.specs.Prelude.{ℕ, ◌≤◌, ◌<◌, ◌≡◌, not, List, [], ◌∷◌, ◌++◌, ◌⊎◌, T, leb, length, get_or}
use Rattle.std.specs.List.{flat_map}
use Rattle.history.specs.RowsAgree.{RowsAgree}
use Rattle.dimensions.specs.declared.DimensionInfo.{DimensionInfo}
use Rattle.history_rows.specs.Rows.{whole_rows, row_count, recent_of, row_at}
use Rattle.history_rows.specs.Tests.{check_of}
use Rattle.param_mapping.specs.Mapping.{mapping_of}
use Rattle.history.specs.Training.{training_of}
use Rattle.history_view.specs.View.{view_of}

-- "both are whole rows, both or neither reach the start-up count, and their last hundred rows are equal in order"; "Recent rows are equally many in both"
pub record WholeAgree (n startup : ℕ) (g h : List ℕ) : Type 0 where
  pub whole : T (whole_rows n g) × T (whole_rows n h)
  pub reach : leb startup (row_count n g) ≡ leb startup (row_count n h)
  pub many : row_count n (recent_of n g) ≡ row_count n (recent_of n h)
  pub rows : (i : ℕ) → i < row_count n (recent_of n g) → RowsAgree n (row_at n (recent_of n g) i) (row_at n (recent_of n h) i)

-- "Two histories agree when neither is whole rows, or when both are"; n is the setting slots
abbrev pub Agree : ℕ → ℕ → List ℕ → List ℕ → Type 0
Agree n startup g h = (T (not (whole_rows n g)) × T (not (whole_rows n h))) ⊎ WholeAgree n startup g h

-- what is the same for two histories that agree, for any dimensions
pub record OrderFree : Type 0 where
  pub refusal : (n startup : ℕ) (g h : List ℕ) → Agree n startup g h → check_of n g ≡ check_of n h
  pub mapping : (n startup : ℕ) (dims : List DimensionInfo) (k : ℕ) (g h : List ℕ) → Agree n startup g h → mapping_of n dims k g ≡ mapping_of n dims k h
  pub training : (n startup : ℕ) (dims : List DimensionInfo) (k : ℕ) (g h : List ℕ) → Agree n startup g h → training_of n dims k g ≡ training_of n dims k h
  pub view : (n startup : ℕ) (dims : List DimensionInfo) (k : ℕ) (g h : List ℕ) → Agree n startup g h → view_of n startup dims k g ≡ view_of n startup dims k h

-- "older words are never read": each answer is a function of the recent rows, and the view of whether start-up is reached too
pub record OlderUnread : Type 0 where
  pub refusal : (n : ℕ) (g h : List ℕ) → recent_of n g ≡ recent_of n h → check_of n g ≡ check_of n h
  pub mapping : (n : ℕ) (dims : List DimensionInfo) (k : ℕ) (g h : List ℕ) → recent_of n g ≡ recent_of n h → mapping_of n dims k g ≡ mapping_of n dims k h
  pub training : (n : ℕ) (dims : List DimensionInfo) (k : ℕ) (g h : List ℕ) → recent_of n g ≡ recent_of n h → training_of n dims k g ≡ training_of n dims k h
  pub view : (n startup : ℕ) (dims : List DimensionInfo) (k : ℕ) (g h : List ℕ) → recent_of n g ≡ recent_of n h → leb startup (row_count n g) ≡ leb startup (row_count n h) → view_of n startup dims k g ≡ view_of n startup dims k h

-- ---- what may differ

-- n slots, each of eight words
abbrev pub are_slots : ℕ → List (List ℕ) → Type 0
are_slots n slots = (length slots ≡ n) × ((s : ℕ) → s < n → length (get_or slots s []) ≡ 8)

-- the row of these parts
abbrev pub row_of : ℕ → ℕ → ℕ → List (List ℕ) → List ℕ
row_of trial state objective slots = trial ∷ state ∷ objective ∷ flat_map (λ slot. slot) slots

-- agreement asks for no more than the papers do
pub record Generous : Type 0 where
  -- "Whatever older rows these hold": any whole rows, before the same hundred
  pub older : (n startup : ℕ) (old older recent : List ℕ) → T (whole_rows n old) → T (whole_rows n older) → T (whole_rows n recent) → row_count n recent ≡ 100
      → leb startup (row_count n (old ++ recent)) ≡ leb startup (row_count n (older ++ recent)) → Agree n startup (old ++ recent) (older ++ recent)
  -- as many rows, each of which agrees with the other's
  pub rows : (n startup : ℕ) (g h : List ℕ) → T (whole_rows n g) → T (whole_rows n h) → row_count n g ≡ row_count n h → ((i : ℕ) → i < row_count n g → RowsAgree n (row_at n g i) (row_at n h i)) → Agree n startup g h
  -- "up to trial number, valid state and the order of a row's slots"
  pub row : (n trial other state another objective : ℕ) (slots permuted : List (List ℕ)) → are_slots n slots → are_slots n permuted → (state ≡ another) ⊎ ((state ≤ 3) × (another ≤ 3)) → Permᴰ slots permuted
      → RowsAgree n (row_of trial state objective slots) (row_of other another objective permuted)
  -- "neither is whole rows"
  pub neither : (n startup : ℕ) (g h : List ℕ) → T (not (whole_rows n g)) → T (not (whole_rows n h)) → Agree n startup g h
  -- a history agrees with itself, in both orders, and by way of a third
  pub itself : (n startup : ℕ) (h : List ℕ) → Agree n startup h h
  pub turned : (n startup : ℕ) (g h : List ℕ) → Agree n startup g h → Agree n startup h g
  pub joined : (n startup : ℕ) (f g h : List ℕ) → Agree n startup f g → Agree n startup g h → Agree n startup f h
