-- Document 01's table of causes and their numbers. Definitions only.
use Rattle.std.specs.Prelude.{ℕ, Result, Ok, Err}
use Rattle.refusal.specs.declared.Refusal.{Refusal}

abbrev pub cause_number : Refusal → ℕ
cause_number Refusal.Settings = 1
cause_number Refusal.Malformed = 2
cause_number Refusal.BrokenRows = 3
cause_number Refusal.Objective = 4
cause_number Refusal.Slot = 5
cause_number Refusal.RepeatedId = 6
cause_number Refusal.UnequalId = 7
cause_number Refusal.TooManyDimensions = 8
cause_number Refusal.NoPlace = 9
cause_number Refusal.UnknownTrial = 10
cause_number Refusal.OutOfDomain = 11
cause_number Refusal.NoRows = 12
cause_number Refusal.Pivot = 13
cause_number Refusal.Text = 14

-- the number of an answer: 0 where it is accepted
abbrev pub number_of : {A : Type 0} → Result A Refusal → ℕ
number_of (Ok x) = 0
number_of (Err r) = cause_number r
