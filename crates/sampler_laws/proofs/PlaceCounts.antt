-- How many places are taken: one more after an accepted new trial, one less after an accepted close; 9 exactly when all 32 are taken and the trial has none. Assumes nothing.
use Rattle.std.specs.Prelude.{Option, Some, None, Result, Ok, Err, is_ok}
use Prim.Native.Nat.{ℕ, ◌+◌}
use mathlib.Core.Path.{◌≡◌, sym, ap, ◌∙◌}
use mathlib.Core.Bool.{Bool, true, false, not, ◌&&◌, cond, and_assoc}
use mathlib.Core.List.{List}
use native.Mathlib.Omega.{arith}
use lib.Dec.{T, eqb, leb}
use lib.ListN.{length}
use lib.Ieee.Bits.{is_true}
use lib.Ieee.Fits.{eq→eqb}
use Rattle.arith.proofs.Tests.{taken as passed, by-test}
use Rattle.distribution.specs.declared.Distribution.{Distribution}
use Rattle.dimensions.specs.declared.DimensionInfo.{DimensionInfo}
use Rattle.dimensions.specs.Dimensions.{dimensions_ok}
use Rattle.refusal.specs.declared.Refusal.{Refusal}
use Rattle.refusal.specs.declared.Refusal.TheVariants.{BrokenRows, Objective, Slot, RepeatedId, UnequalId, OutOfDomain}
use Rattle.refusal.specs.Numbers.{cause_number, number_of}
use Rattle.param_mapping.specs.Mapping.{asked_of}
use Rattle.history_rows.specs.Rows.{whole_rows}
use Rattle.history_rows.specs.Tests.{row_ok, slots_ok, ids_once, rows_agreeing, recent_tests, check_of}
use Rattle.history_view.specs.View.{view_of}
use Rattle.history_view.proofs.Views.{view-number}
use Rattle.history_rows.proofs.Passed.{every_recent}
use Rattle.settings.specs.declared.Settings.{Settings}
use Rattle.settings.specs.Settings.{settings_ok}
use Rattle.proposal.specs.Proposal.{candidate_of, compute_candidate_of}
use Rattle.sampler_state.specs.declared.Place.{Place}
use Rattle.sampler_state.specs.declared.Sampler.{Sampler}
use Rattle.sampler_state.specs.State.{trial_place, held_by, taken_count, sampler_ok}
use Rattle.sampler_state.proofs.Held.{spot-count, emptied-count, no-spot, all-taken, full-no-spot}
use Rattle.sampler_laws.specs.declared.Sampled.{Sampled}
use Rattle.sampler_laws.specs.Calls.{active_of, served_of, sample_of}
use Rattle.sampler_laws.specs.Laws.{PlacesCounted}
use Rattle.sampler_laws.specs.NewTrials.{past_discovery, new_trial, served_history}
use Rattle.sampler_laws.specs.Runs.{Asked, asks, closes, call_of, call_number, read_asked}
use Rattle.sampler_laws.proofs.Others.{Other, fine, domain, made-other, then-other, random-other, walked-other}
use Rattle.sampler_laws.proofs.OneTrial.{by-serving, serves-own}
use Rattle.sampler_laws.proofs.Parts.{taken-active}
use Rattle.sampler_laws.proofs.Ways.{Refusing, malformed-sampler, malformed-asked, bad-history, no-dimension, no-draw, no_place, no-values, by-sample, by-close}

-- ---- the count

-- an answer to a call on a sampler with these places; new says whether the call, where it is accepted, is a new trial's
abbrev Counted : List (Option Place) → Bool → Sampled → Type 0
Counted ps new r = taken_count r.sampler.places ≡ taken_count ps + cond (is_ok r.answer && new) 1 0

no_more : (n : ℕ) → n ≡ n + 0
no_more n = omega arith

module _ (s : Sampler) (n : length s.places ≡ 32) where
  sampled : (d : Asked) (trial : ℕ) (h : List ℕ) → Counted s.places (past_discovery s trial && eqb (trial_place s.places trial) 32) (call_of s (asks d trial h))
  sampled d trial h =
      by-sample s d trial h (Counted s.places (past_discovery s trial && eqb (trial_place s.places trial) 32)) (λ c _. no_more (taken_count s.places)) (λ r _ a _ _ _. rw a (no_more (taken_count s.places)))
      (λ r _ a l v e. rw a (spot-count s.places n trial _ l (eq→eqb (serves-own s n r trial (served_history s h) v e))))

  closed : (trial : ℕ) → taken_count (call_of s (closes trial)).sampler.places + cond (is_ok (call_of s (closes trial)).answer) 1 0 ≡ taken_count s.places
  closed trial =
      by-close s trial (λ r. taken_count r.sampler.places + cond (is_ok r.answer) 1 0 ≡ taken_count s.places)
      (λ _ _ _. sym (no_more (taken_count s.places))) (λ _ _ _ _. sym (no_more (taken_count s.places))) (λ _ l. emptied-count s.places n trial l)

-- ---- 9

-- the history's refusal is not 9
skips : (b : Bool) (rest : Result Unit Refusal) (r : Refusal) → (cause_number r ≡ 9 → ⊥) → Other rest → Other (cond b rest (Err r))
skips true rest r n o = o
skips false rest r n o = record { no = n }

history-other : (n : ℕ) (h : List ℕ) → Other (check_of n h)
unfolding check_of recent_tests
history-other n h =
    skips (leb 1 n && leb n 20) _ OutOfDomain (λ z. omega arith)
    (skips (whole_rows n h) _ BrokenRows (λ z. omega arith)
    (skips (every_recent n h row_ok) _ Objective (λ z. omega arith)
    (skips (every_recent n h (slots_ok n)) _ Slot (λ z. omega arith)
    (skips (every_recent n h (ids_once n)) _ RepeatedId (λ z. omega arith)
    (skips (every_recent n h (λ a. every_recent n h (rows_agreeing n a))) (Ok tt) UnequalId (λ z. omega arith) (fine tt))))))

-- nor is a new trial's
candidate-other : (s : Settings) (dims : List DimensionInfo) (k w : ℕ) (h : List ℕ) → Other (compute_candidate_of s dims k w h)
unfolding compute_candidate_of candidate_of asked_of
candidate-other s dims k w h =
    by-test Other (settings_ok s && not (eqb w 0)) _ _
    (λ _. then-other (view_of s.slots s.n_startup_trials dims k h) (candidate_of s dims k w)
    (record { no = λ e. (skips (dimensions_ok dims k) (check_of s.slots h) OutOfDomain (λ z. omega arith) (history-other s.slots h)).no (sym (view-number s.slots s.n_startup_trials dims k h) ∙ e) })
    (λ v. by-test Other (v.reached && leb 1 v.training.d) _ _ (λ _. made-other _ _ (walked-other _ dims k _)) (λ _. walked-other None dims k w)))
    (λ _. domain _)

only-full : (s : Sampler) (d : Asked) (trial : ℕ) (h : List ℕ) → call_number (call_of s (asks d trial h)) ≡ 9 → (taken_count s.places ≡ 32) × (trial_place s.places trial ≡ 32)
only-full s d trial h =
    by-sample s d trial h (λ r. call_number r ≡ 9 → (taken_count s.places ≡ 32) × (trial_place s.places trial ≡ 32)) (λ c x e. nine x e) (λ r _ _ _ x _ e. absurd (omega arith)) (λ r _ _ _ v _ e. absurd (omega arith))
  where
    nine : {c : Refusal} → Refusing s d trial h c → cause_number c ≡ 9 → (taken_count s.places ≡ 32) × (trial_place s.places trial ≡ 32)
    nine (malformed-sampler c n x) e = absurd (omega arith)
    nine (malformed-asked c n o q) e = absurd (omega arith)
    nine (bad-history o r q c x) e = absurd ((history-other s.settings.slots h).no (ap number_of x ∙ e))
    nine (no-dimension c n r p q x) e = absurd (omega arith)
    nine (no-draw r p c x) e = absurd ((random-other s.word r).no (ap number_of x ∙ e))
    nine (no_place c n r p q l) e = no-spot s.places trial l
    nine (no-values r p q c x) e =
        absurd ((by-serving s.settings s.dimensions.list s.dimensions.count s.word (held_by s.places trial) r trial (served_history s h) Other (λ _ _ _. fine _)
        (λ _ _ _. made-other _ _ (random-other s.word r)) (λ _. made-other _ _ (candidate-other s.settings s.dimensions.list s.dimensions.count s.word (served_history s h)))).no (ap number_of x ∙ e))

ninth : (s : Sampler) (d : Asked) (r : Distribution) (trial : ℕ) (h : List ℕ)
    → T (sampler_ok s) → read_asked d ≡ Some r → check_of s.settings.slots h ≡ Ok tt → taken_count s.places ≡ 32 → trial_place s.places trial ≡ 32 → call_number (call_of s (asks d trial h)) ≡ 9
unfolding sample_of served_of active_of
ninth s d r trial h ok e n c p =
    rw (is_true (sampler_ok s) ok, e, n, taken-active s ok 0 (omega arith) (passed (all-taken s.places c 0 (omega arith))), full-no-spot s.places trial c p)

pub places_counted : PlacesCounted
unfolding new_trial
places_counted = record {
  sampled = λ s d trial h t.
      sampled s t.places d trial h
      ∙ ap (λ (b : Bool). taken_count s.places + cond b 1 0) (sym (and_assoc (is_ok (call_of s (asks d trial h)).answer) (past_discovery s trial) (eqb (trial_place s.places trial) 32)));
  closed = λ s trial t. closed s t.places trial;
  full = only-full;
  ninth = ninth;
}
