-- Nothing inside a call with a history that is not refused is refused: a fit only with 12 or 13, no decoding and no draw. Assumes nothing.
use Prim.Native.Nat.{ℕ, ◌*◌, ◌/◌, ◌%◌, ◌<◌}
use native.Mathlib.Nat.{zero-sub, zero-mod, zero-div}
use native.Mathlib.Omega.{arith}
use mathlib.Core.Path.{◌≡◌, refl, ap, ◌∙◌}
use mathlib.Core.Bool.{Bool, true, false, cond}
use mathlib.Core.List.{List, [], ◌∷◌}
use lib.Dec.{T, leb, leb→le}
use lib.ListN.{get_or, take, length-drop}
use lib.Ieee.Bits.{is_true}
use borrow.Author.Tests.{eq-eqb}
use Rattle.arith.specs.Lists.{every}
use Rattle.distribution.specs.declared.ParamValue.{ParamValue}
use Rattle.distribution.proofs.Facts.{parts}
use Rattle.history_view.specs.declared.View.{View}
use Rattle.dimensions.specs.declared.DimensionInfo.{DimensionInfo}
use Rattle.dimensions.specs.Dimensions.{dimension_at, dimensions_ok}
use Rattle.refusal.specs.declared.Refusal.{Refusal}
use Rattle.refusal.specs.declared.Refusal.TheVariants.{BrokenRows}
use Rattle.refusal.specs.Numbers.{cause_number, number_of}
use Rattle.std.specs.Prelude.{Result, Ok, Err}
use Rattle.rng_util.specs.declared.Draw.{Draw}
use Rattle.param_mapping.specs.Mapping.{asked_of}
use Rattle.history_rows.specs.Rows.{width_of, whole_rows, row_count, recent_of, older_of}
use Rattle.history_rows.specs.Tests.{first_of, recent_tests, check_of}
use Rattle.history.specs.Training.{training_of}
use Rattle.history_view.specs.View.{seen_of}
use Rattle.history_view.proofs.Views.{seen-training}
use Rattle.history_rows.proofs.Passed.{check-recent}
use Rattle.history_view.proofs.Usable.{usable}
use Rattle.settings.specs.declared.Settings.{Settings}
use Rattle.settings.specs.Settings.{settings_ok}
use Rattle.proposal.specs.Points.{fit_for}
use Rattle.proposal.specs.Proposal.{compute_candidate_of}
use Rattle.dimensions.specs.Empty.{empty_value}
use Rattle.proposal.proofs.Numbers.{accepted-is}
use Rattle.proposal.proofs.WordCount.{view-columns}
use Rattle.proposal.proofs.Ranges.{fit_number, fit-number, random-ranged, candidate-ranged}
use Rattle.sampler_state.specs.declared.Sampler.{Sampler}
use Rattle.sampler_laws.specs.Laws.{NothingRefused}
use Rattle.sampler_laws.specs.NewTrials.{served_history, fit_made, fit_answer}
use Rattle.distribution.specs.Range.{in_range}
use Rattle.sampler_laws.proofs.Parts.{Well, well, Ready, ready}

-- ---- the numbers of histories

-- no row is refused
pub empty-accepted : (n : ℕ) → T (leb 1 n) → T (leb n 20) → check_of n [] ≡ Ok tt
empty-accepted n a b =
    check-recent n [] (is_true (leb 1 n) a) (is_true (leb n 20) b) whole ∙ ap (λ (m : ℕ). first_of (recent_tests n m (recent_of n []))) none ∙ (unfold recent_tests every in refl)
  where
    whole : whole_rows n [] ≡ true
    whole = unfold whole_rows in eq-eqb (0 % width_of n) 0 (zero-mod (width_of n))

    none : row_count n (recent_of n []) ≡ 0
    none = unfold row_count recent_of in ap (λ (k : ℕ). k / width_of n) (length-drop (older_of n []) [] ∙ zero-sub (older_of n [])) ∙ zero-div (width_of n)

module _ (s : Settings) (o : T (settings_ok s)) where
  pub slots-least : T (leb 1 s.slots)
  unfolding settings_ok
  slots-least = search parts depth 9

  pub slots-most : T (leb s.slots 20)
  unfolding settings_ok
  slots-most = search parts depth 9

-- numbers below 11
abbrev Small : List (Refusal × Bool) → Type 0
Small [] = Unit
Small (t ∷ ts) = (cause_number t.0 < 11) × Small ts

first_small : (ts : List (Refusal × Bool)) → Small ts → number_of (first_of ts) < 11
first_small [] h = omega arith
first_small (t ∷ ts) h = go t.1 (first_small ts h.1)
  where
    go : (b : Bool) → number_of (first_of ts) < 11 → number_of (cond b (first_of ts) (Err t.0)) < 11
    go true l = l
    go false l = h.0

-- slots in range are never 11
pub refusal-small : (s : Settings) (h : List ℕ) → T (settings_ok s) → number_of (check_of s.slots h) < 11
unfolding check_of recent_tests
refusal-small s h o =
    let n = s.slots in
    let a = slots-least s o in
    let b = slots-most s o in
    rw (is_true (leb 1 n) a, is_true (leb n 20) b)
    (first_small ((BrokenRows, whole_rows n h) ∷ recent_tests n (row_count n (recent_of n h)) (recent_of n h)) (omega arith, (omega arith, (omega arith, (omega arith, (omega arith, tt))))))

-- ---- the facts

abbrev pub InRanges : List DimensionInfo → ℕ → Result (Draw (List ParamValue)) Refusal → Type 0
InRanges dims k r = (c : Draw (List ParamValue)) × (r ≡ Ok c) × ((j : ℕ) → j < k → T (in_range (dimension_at dims j).distribution (get_or c.value j empty_value)))

module _ (settings : Settings) (dims : List DimensionInfo) (k word : ℕ) (g : Ready settings dims k word) (h : List ℕ) (r : check_of settings.slots h ≡ Ok tt) where
  abbrev view : View
  view = seen_of settings.slots settings.n_startup_trials dims k h

  asked : asked_of settings.slots dims k h ≡ Ok tt
  unfolding asked_of
  asked = rw (is_true (dimensions_ok dims k) g.dimensions, r)

  training : training_of settings.slots dims k h ≡ Ok view.training
  training = seen-training settings.slots settings.n_startup_trials dims k h (rw asked)

  fit : T (leb 1 view.training.d) → T (fit_number (number_of (fit_for view.training settings.noise_variance)))
  fit m =
      let v = view.training in
      fit-number (take (v.n * v.d) v.x) (take v.n v.y) v.d settings.noise_variance
      (usable.fits settings.slots dims k h (λ j l. (g.formed j l).held) (λ j l. ((g.formed j l).lo-fits, (g.formed j l).hi-fits)) v training (leb→le 1 v.d m))

  -- a new trial's values are made and in range
  pub values-made : InRanges dims k (compute_candidate_of settings dims k word h)
  values-made =
      let m = candidate-ranged settings dims k word view g.nonzero (λ _. view-columns settings dims k word h asked) g.formed in (
        m.made,
        accepted-is settings dims k word h (is_true (settings_ok settings) g.settings-ok) (λ z. let l = g.nonzero.0 in omega arith) asked ∙ m.is,
        m.range,
      )

-- the history that a call is served with is not refused where its own is not
pub served-accepted : (s : Sampler) (h : List ℕ) → T (settings_ok s.settings) → check_of s.settings.slots h ≡ Ok tt → check_of s.settings.slots (served_history s h) ≡ Ok tt
served-accepted s h o r = go s.active
  where
    go : (b : Bool) → check_of s.settings.slots (cond b h []) ≡ Ok tt
    go true = r
    go false = empty-accepted s.settings.slots (slots-least s.settings o) (slots-most s.settings o)

module _ (s : Sampler) (g : Well s) (h : List ℕ) (r : check_of s.settings.slots h ≡ Ok tt) where
  values_of : InRanges s.dimensions.list s.dimensions.count (compute_candidate_of s.settings s.dimensions.list s.dimensions.count s.word (served_history s h))
  values_of = values-made s.settings s.dimensions.list s.dimensions.count s.word (ready s g) (served_history s h) (served-accepted s h g.ok.settings r)

  fit_of_lem : T (fit_made s h) → T (fit_number (number_of (fit_answer s h)))
  fit_of_lem m = fit s.settings s.dimensions.list s.dimensions.count s.word (ready s g) (served_history s h) (served-accepted s h g.ok.settings r) (search parts)

pub nothing_refused : NothingRefused
nothing_refused = record {
  fit = λ s h t o r. fit_of_lem s (well s t o) h r;
  values = λ s h t o r. values_of s (well s t o) h r;
  random = λ s d f x t o. let r = random-ranged s.word d (ready s (well s t o)).nonzero f x in (r.draw, r.is, r.range);
}
