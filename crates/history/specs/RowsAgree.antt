-- When two rows agree, in the words of demand 3 and of document 01. A definition only.
use Rattle.std.specs.Prelude.{ℕ, ◌≤◌, ◌≡◌, ◌⊎◌}
use mathlib.Core.List.{List, Permᴰ}
use Rattle.history_rows.specs.Rows.{state_of, objective_of, slots_of}

-- "the objectives are equal, the states equal or both in 0 to 3, one row's slots the other's in some order"; objectives and slots word for word. Trial numbers are not spoken of.
pub record RowsAgree (n : ℕ) (a b : List ℕ) : Type 0 where
  pub objective : objective_of a ≡ objective_of b
  pub state : (state_of a ≡ state_of b) ⊎ ((state_of a ≤ 3) × (state_of b ≤ 3))
  pub slots : Permᴰ (slots_of n a) (slots_of n b)
