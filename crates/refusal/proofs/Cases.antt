-- The definitions at single points, computed. Assumes nothing.
use Rattle.std.specs.Prelude.{ℕ, Ok, Err}
use Rattle.std.proofs.Common.{◌≡◌, refl}
use Rattle.refusal.specs.declared.Refusal.TheVariants.{Settings, Pivot, NoRows, OutOfDomain, Text}
use Rattle.refusal.specs.Numbers.{number_of}

abbrev Answers : Type 0
Answers =
    (number_of {A = ℕ} (Ok 7) ≡ 0)
    × (number_of {A = ℕ} (Err Settings) ≡ 1)
    × (number_of {A = ℕ} (Err OutOfDomain) ≡ 11)
    × (number_of {A = ℕ} (Err NoRows) ≡ 12)
    × (number_of {A = ℕ} (Err Pivot) ≡ 13)
    × (number_of {A = ℕ} (Err Text) ≡ 14)

answers : Answers
answers = (refl, refl, refl, refl, refl, refl)
