-- What an accepted new trial says, and how many words its point takes. Assumes nothing.
use Rattle.refusal.specs.declared.Refusal.{Refusal}
use Rattle.std.specs.Prelude.{Result, Ok}
use Rattle.history_view.specs.declared.View.{View}
use Prim.Native.Nat.{ℕ, ◌≤◌, ◌<◌}
use mathlib.Core.Path.{◌≡◌, refl, sym, ap, ◌∙◌}
use mathlib.Core.Bool.{Bool, true, false, not, ◌&&◌, cond}
use mathlib.Core.List.{List}
use native.Mathlib.Nat.{mul-le-mul, pos_of_ne-zero}
use native.Mathlib.Omega.{arith}
use lib.Dec.{T_not, eqb, leb→le}
use lib.Ieee.Bits.{is_true}
use lib.Ieee.Fits.{and_l, and_r}
use lib.Ieee.{Float}
use borrow.Author.Tests.{ne_eqb, eqb-false}
use Rattle.arith.proofs.Tests.{taken}
use Rattle.distribution.proofs.Facts.{parts}
use Rattle.std.specs.Prelude.{Result, Ok, Err}
use Rattle.refusal.specs.declared.Refusal.{Refusal}
use Rattle.gp_model.specs.declared.Model.{Model}
use Rattle.dimensions.specs.declared.DimensionInfo.{DimensionInfo}
use Rattle.history.specs.declared.Training.{Training}
use Rattle.refusal.specs.Numbers.{number_of}
use Rattle.param_mapping.specs.Mapping.{asked_of}
use Rattle.history_view.specs.View.{view_of, seen_of}
use Rattle.arith.specs.Outcome.{and_then}
use Rattle.refusal.specs.declared.Refusal.TheVariants.{OutOfDomain}
use Rattle.history.specs.Counts.{Counts}
use Rattle.history.proofs.Counts.{training-counts}
use Rattle.history_view.proofs.Views.{none-refused, view-number, seen-training, view-seen}
use Rattle.param_mapping.proofs.Opened.{opened}
use Rattle.settings.specs.declared.Settings.{Settings}
use Rattle.settings.specs.Settings.{settings_ok}
use Rattle.proposal.specs.Points.{fit_for, point_by, point_for}
use Rattle.proposal.specs.Proposal.{candidate_of, compute_candidate_of}
use Rattle.proposal.specs.Values.{Values}

pub point_few : (t : Training) (noise : Float) (candidates w : ℕ) → candidates ≤ 10000 → t.d ≤ 20 → (point_for t noise candidates w).drawn ≤ 200000
unfolding point_for
point_few t noise candidates w h k = go (fit_for t noise)
  where
    go : (f : Result Model Refusal) → (point_by f t.d candidates w).drawn ≤ 200000
    go (Ok m) = mul-le-mul h k
    go (Err r) = omega arith

module _ (s : Settings) (dims : List DimensionInfo) (k w : ℕ) (h : List ℕ) where
  -- where nothing is refused
  pub accepted-is : settings_ok s ≡ true → (w ≡ 0 → ⊥) → asked_of s.slots dims k h ≡ Ok tt
      → compute_candidate_of s dims k w h ≡ candidate_of s dims k w (seen_of s.slots s.n_startup_trials dims k h)
  unfolding compute_candidate_of
  accepted-is o z e = rw (o, ne_eqb w 0 z, view-seen s.slots s.n_startup_trials dims k h (rw e))

  -- values that are made: no test failed, of the settings, the word and the history
  pub record Made (c : Values) : Type 0 where
    pub settings : settings_ok s ≡ true
    pub word : w ≡ 0 → ⊥
    pub asked : asked_of s.slots dims k h ≡ Ok tt
    pub is : candidate_of s dims k w (seen_of s.slots s.n_startup_trials dims k h) ≡ Ok c

  pub made-by : (c : Values) → compute_candidate_of s dims k w h ≡ Ok c → Made c
  unfolding compute_candidate_of
  made-by c = go (settings_ok s) (eqb w 0) (view_of s.slots s.n_startup_trials dims k h) refl refl refl
    where
      go : (a b : Bool) (v : Result View Refusal) → settings_ok s ≡ a → eqb w 0 ≡ b → view_of s.slots s.n_startup_trials dims k h ≡ v
          → cond (a && not b) (and_then v (candidate_of s dims k w)) (Err OutOfDomain) ≡ Ok c → Made c
      go true false (Ok v) p q r e =
          let n = none-refused (asked_of s.slots dims k h) (sym (view-number s.slots s.n_startup_trials dims k h) ∙ ap number_of r) in
          record { settings = p; word = eqb-false w 0 q; asked = n; is = rw r e }
      go true false (Err f) p q r e = cc
      go true true v p q r e = cc
      go false b v p q r e = cc

-- the candidates of settings in range
candidates-few : (s : Settings) → settings_ok s ≡ true → s.n_candidates ≤ 10000
unfolding settings_ok
candidates-few s e = let t = taken e in leb→le s.n_candidates 10000 (search parts depth 9)

-- what the code asks of a view that is not refused
pub candidate_asks : (s : Settings) (dims : List DimensionInfo) (k w : ℕ) (h : List ℕ) (v : View) → (settings_ok s && not (eqb w 0)) ≡ true → view_of s.slots s.n_startup_trials dims k h ≡ Ok v
    → (k ≤ 20) × (0 < w) × (s.n_candidates ≤ 10000) × Counts v.training
candidate_asks s dims k w h v t e =
    let n = none-refused (asked_of s.slots dims k h) (sym (view-number s.slots s.n_startup_trials dims k h) ∙ ap number_of e) in
    let c = training-counts s.slots dims k h v.training (seen-training s.slots s.n_startup_trials dims k h (rw n) ∙ rw e) in
    let p = taken t in
    let z = T_not (eqb w 0) (and_r (settings_ok s) (not (eqb w 0)) p) in
    ((opened s.slots dims k h n).1, pos_of_ne-zero (λ q. z (rw q tt)), candidates-few s (is_true (settings_ok s) (and_l (settings_ok s) (not (eqb w 0)) p)), c)
