-- What the number 0 of a history says, which view there is, and its training data. Assumes nothing.
use Rattle.refusal.specs.declared.Refusal.{Refusal}
use Rattle.refusal.specs.Numbers.{cause_number, number_of}
use Rattle.std.specs.Prelude.{Result, Ok, Err}
use Prim.Native.Nat.{ℕ}
use mathlib.Core.Path.{◌≡◌, refl, ◌∙◌}
use mathlib.Core.List.{List}
use native.Mathlib.Omega.{arith}
use Rattle.dimensions.specs.declared.DimensionInfo.{DimensionInfo}
use Rattle.param_mapping.specs.Mapping.{asked_of}
use Rattle.history.specs.declared.Training.{Training}
use Rattle.history.specs.Training.{training_of}
use Rattle.history_view.specs.View.{reaches_of, viewed, view_of, seen_of}
use Rattle.history.proofs.FromArray.{training-is, training-number}

-- no cause has the number 0
pub cause-some : (r : Refusal) → cause_number r ≡ 0 → ⊥
cause-some Refusal.Settings e = omega arith
cause-some Refusal.Malformed e = omega arith
cause-some Refusal.BrokenRows e = omega arith
cause-some Refusal.Objective e = omega arith
cause-some Refusal.Slot e = omega arith
cause-some Refusal.RepeatedId e = omega arith
cause-some Refusal.UnequalId e = omega arith
cause-some Refusal.TooManyDimensions e = omega arith
cause-some Refusal.NoPlace e = omega arith
cause-some Refusal.UnknownTrial e = omega arith
cause-some Refusal.OutOfDomain e = omega arith
cause-some Refusal.NoRows e = omega arith
cause-some Refusal.Pivot e = omega arith
cause-some Refusal.Text e = omega arith

pub none-refused : (r : Result Unit Refusal) → number_of r ≡ 0 → r ≡ Ok tt
none-refused (Ok u) e = refl
none-refused (Err r) e = absurd (cause-some r e)

module _ (n startup : ℕ) (dims : List DimensionInfo) (k : ℕ) (h : List ℕ) where
  -- the number of a view is that of its training data
  pub view-number : number_of (view_of n startup dims k h) ≡ number_of (asked_of n dims k h)
  unfolding view_of
  view-number = go (training_of n dims k h) ∙ training-number n dims k h
    where
      go : (r : Result Training Refusal) → number_of (viewed (reaches_of n startup h) r) ≡ number_of r
      go (Ok t) = refl
      go (Err r) = refl

  -- what is seen where nothing is refused
  pub seen-training : number_of (asked_of n dims k h) ≡ 0 → training_of n dims k h ≡ Ok (seen_of n startup dims k h).training
  unfolding view_of
  seen-training e = let t = training-is n dims k h (none-refused (asked_of n dims k h) e) in rw t

  pub view-seen : number_of (asked_of n dims k h) ≡ 0 → view_of n startup dims k h ≡ Ok (seen_of n startup dims k h)
  unfolding view_of
  view-seen e = let t = training-is n dims k h (none-refused (asked_of n dims k h) e) in rw t
