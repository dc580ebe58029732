-- What a new trial stores: with a model the decoding of the best point drawn for it, and what is no model's. Assumes nothing.
use Prim.Native.Nat.{ℕ, ◌<◌}
use mathlib.Core.Path.{◌≡◌, refl, sym, ◌∙◌, subst}
use mathlib.Core.Bool.{true, false, true≢false}
use mathlib.Core.List.{List}
use mathlib.Core.Logic.{inl, inr}
use native.Mathlib.Omega.{arith}
use native.Mathlib.Numerals.{add-one}
use lib.Dec.{T, eqb→eq, eqb_refl}
use lib.ListN.{length}
use lib.Ieee.{Float}
use lib.Ieee.Fits.{and_l}
use lib.Ieee.Bits.{is_true}
use Rattle.std.specs.Prelude.{Some, Result, Ok, Err, is_ok}
use Rattle.refusal.specs.declared.Refusal.{Refusal}
use Rattle.rng_util.specs.declared.Draw.{Draw}
use Rattle.distribution.specs.declared.ParamValue.{ParamValue}
use Rattle.distribution.proofs.Facts.{parts}
use Rattle.proposal.specs.Proposal.{compute_candidate_of}
use Rattle.gp_model.specs.declared.Model.{Model}
use Rattle.proposal.proofs.Decoded.{Decodes, stores-earliest}
use Rattle.proposal.proofs.RandomValues.{without-fit, choices-drawn, units-decoded}
use Rattle.sampler_state.specs.declared.Place.{Place}
use Rattle.sampler_state.specs.declared.Sampler.{Sampler}
use Rattle.sampler_state.specs.State.{trial_place, held_by}
use Rattle.sampler_state.proofs.Held.{own-or-none, put-new}
use Rattle.sampler_laws.specs.declared.Answer.{Answer}
use Rattle.sampler_laws.specs.Calls.{activated, stored_of, written_of, spot_of}
use Rattle.sampler_laws.specs.Laws.{Typed}
use Rattle.sampler_laws.specs.NewTrials.{past_discovery, new_trial, served_history, has_model, fit_made, fit_answer, point_drawn, Stores, RandomStored, BestStored}
use Rattle.sampler_laws.specs.Runs.{Asked, asks, closes, Call, call_of}
use Rattle.sampler_laws.proofs.OneTrial.{by-served}
use Rattle.sampler_laws.proofs.Ways.{by-sample}

-- ---- an accepted new trial

-- its values were made with the history that it is served with, and stand in its place
record Filled (s : Sampler) (trial : ℕ) (h : List ℕ) (after : Sampler) : Type 0 where
  draw : Draw (List ParamValue)
  is : compute_candidate_of s.settings s.dimensions.list s.dimensions.count s.word (served_history s h) ≡ Ok draw
  placed : trial_place after.places trial < 32
  held : held_by after.places trial ≡ Some (stored_of trial draw).place

filled : (s : Sampler) → length s.places ≡ 32 → (d : Asked) (trial : ℕ) (h : List ℕ) → past_discovery s trial ≡ true → trial_place s.places trial ≡ 32 → (a : Answer) → (call_of s (asks d trial h)).answer ≡ Ok a
    → Filled s trial h (call_of s (asks d trial h)).sampler
filled s n d trial h past none =
    by-sample s d trial h (λ r. (a : Answer) → r.answer ≡ Ok a → Filled s trial h r.sampler) (λ c _ a e. absurd (cc)) (λ r _ a _ _ _ _ _. absurd (true≢false (sym past ∙ a)))
    (λ r _ _ l v e _ _. by-served s.settings s.dimensions.list s.dimensions.count s.word (held_by s.places trial) r trial (served_history s h)
    (λ v. Filled s trial h (written_of (activated s) (spot_of s trial) v).sampler) (λ q f _. absurd (taken q f)) (λ q f _ _ _. absurd (taken q f))
    (λ _ c z.
    let p = put-new s.places n (spot_of s trial) l (Some (stored_of trial c).place) trial none (eqb_refl trial) in
    record { draw = c; is = z; placed = subst (λ (k : ℕ). k < 32) (sym p.0) l; held = p.1 }) v e)
  where
    -- no place is found for it
    taken : (q : Place) → held_by s.places trial ≡ Some q → ⊥
    taken q f = elim (own-or-none s.places n trial) [ inl o ↦ (let l = o.below in omega (arith, none)) | inr o ↦ (let z = sym o.empty ∙ f in cc) ]

-- ---- what its place holds

stores : (s after : Sampler) (trial : ℕ) (h : List ℕ) (point : List Float) (f : Filled s trial h after) → Decodes s.dimensions.list s.dimensions.count f.draw.value point → Stores s after trial point
stores s after trial h point f e = record { place = (stored_of trial f.draw).place; placed = f.placed; held = f.held; decoded = e }

-- a new trial's place is filled
newly : (s : Sampler) → length s.places ≡ 32 → (d : Asked) (trial : ℕ) (h : List ℕ) → T (new_trial s (asks d trial h)) → Filled s trial h (call_of s (asks d trial h)).sampler
unfolding new_trial
newly s n d trial h t =
    let none : trial_place s.places trial ≡ 32 = eqb→eq (trial_place s.places trial) 32 (search parts) in
    let past : past_discovery s trial ≡ true = is_true (past_discovery s trial) (search parts depth 9) in
    let a = answered (call_of s (asks d trial h)).answer (search parts depth 9) in
    filled s n d trial h past none a.0 a.1
  where
    answered : (r : Result Answer Refusal) → T (is_ok r) → (a : Answer) × (r ≡ Ok a)
    answered (Ok a) t = (a, refl)
    answered (Err c) t = absurd t

pub best : (s : Sampler) (c : Call) → length s.places ≡ 32 → BestStored s c
unfolding has_model point_drawn
best s (asks d trial h) n = λ t g m e.
    let after = (call_of s (asks d trial h)).sampler in
    let f = newly s n d trial h t in
    let q = stores-earliest s.settings s.dimensions.list s.dimensions.count s.word (served_history s h) f.draw f.is (and_l (fit_made s h) (is_ok (fit_answer s h)) g) m e in
    record {
      none = λ z. stores s after trial h _ f (q.none z);
      found = λ z. let b = q.found z in record { index = b.index; best = b.best; stored = stores s after trial h _ f b.decoded };
    }
best s (closes trial) n = tt

-- ---- the values that are no model's

pub random : (s : Sampler) (c : Call) → Typed s → RandomStored s c
random s (asks d trial h) t = λ q.
    let f = newly s t.places d trial h q in
    record {
      place = (stored_of trial f.draw).place;
      placed = f.placed;
      held = f.held;
      random = without-fit s.settings s.dimensions.list s.dimensions.count s.word (served_history s h) f.draw f.is t.word t.held;
      units = λ m e j l k. rw add-one (units-decoded s.settings s.dimensions.list s.dimensions.count s.word (served_history s h) f.draw f.is t.word t.held m (refused (fit_answer s h) e).1 j l k);
      categories = choices-drawn s.settings s.dimensions.list s.dimensions.count s.word (served_history s h) f.draw f.is t.word t.held;
    }
  where
    refused : (r : Result Model Refusal) → is_ok r ≡ false → (c : Refusal) × (r ≡ Err c)
    refused (Ok m) e = absurd (true≢false e)
    refused (Err c) e = (c, refl)
random s (closes trial) t = tt
