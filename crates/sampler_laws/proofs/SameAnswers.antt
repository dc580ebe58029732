-- Two runs whose histories agree at each call answer the same and end in the same sampler: a history is seen only through its tests and its view. Assumes nothing.
use Rattle.std.specs.Prelude.{Option, Some, None, Result}
use Rattle.refusal.specs.declared.Refusal.{Refusal}
use Prim.Native.Nat.{ℕ}
use mathlib.Core.Path.{◌≡◌, refl, sym, ap, ◌∙◌, subst}
use mathlib.Core.List.{List, ◌∷◌}
use Rattle.distribution.specs.declared.Distribution.{Distribution}
use Rattle.history_view.specs.Agree.{Agree}
use Rattle.history_view.proofs.Order.{order-free}
use Rattle.settings.specs.declared.Settings.{Settings}
use Rattle.sampler_state.specs.declared.Sampler.{Sampler}
use Rattle.sampler_state.specs.State.{held_by}
use Rattle.sampler_laws.specs.declared.Answer.{Answer}
use Rattle.sampler_laws.specs.declared.Sampled.{Sampled}
use Rattle.sampler_laws.specs.Calls.{active_of, served_of, asked_of, sample_of}
use Rattle.sampler_laws.specs.Runs.{Asked, asks, closes, Call, call_of, read_asked, answers_of, end_of, Alike, alike-none, alike-asks, alike-closes}
use Rattle.sampler_laws.proofs.Kept.{settings-kept}
use Rattle.sampler_laws.proofs.OneTrial.{serving-same}

-- ---- one call with two histories that agree

module _ (s : Sampler) (g h : List ℕ) (a : Agree s.settings.slots s.settings.n_startup_trials g h) where
  abbrev n : ℕ
  n = s.settings.slots

  abbrev startup : ℕ
  startup = s.settings.n_startup_trials

  active-same : (d : Distribution) (trial : ℕ) → active_of s d trial g ≡ active_of s d trial h
  unfolding active_of
  active-same d trial = rw (serving-same s.settings s.dimensions.list s.dimensions.count s.word (held_by s.places trial) d trial g h (order-free.view n startup s.dimensions.list s.dimensions.count g h a))

  served-same : (d : Distribution) (trial : ℕ) → served_of s d trial g ≡ served_of s d trial h
  unfolding served_of
  served-same d trial = rw (active-same d trial)

  asked-same : (r : Option Distribution) (trial : ℕ) → asked_of s r trial g ≡ asked_of s r trial h
  asked-same None trial = refl
  asked-same (Some d) trial = rw (served-same d trial, order-free.refusal n startup g h a)

  sample-same : (d : Asked) (trial : ℕ) → call_of s (asks d trial g) ≡ call_of s (asks d trial h)
  unfolding sample_of
  sample-same d trial = rw (asked-same (read_asked d) trial)

-- ---- the list

pub runs_same : (t : Settings) (s : Sampler) → s.settings ≡ t → {cs ds : List Call} → Alike t.slots t.n_startup_trials cs ds → (answers_of s cs ≡ answers_of s ds) × (end_of s cs ≡ end_of s ds)
unfolding answers_of end_of
runs_same t s e alike-none = (refl, refl)
runs_same t s e (alike-asks d trial g h {cs} {ds} a rest) =
    let p = sample-same s g h (subst (λ (x : Settings). Agree x.slots x.n_startup_trials g h) (sym e) a) d trial in
    let r = runs_same t (call_of s (asks d trial g)).sampler (settings-kept s (asks d trial g) ∙ e) rest in
    (ap (λ (x : List (Result Answer Refusal)). (call_of s (asks d trial g)).answer ∷ x) r.0 ∙ ap (λ (x : Sampled). x.answer ∷ answers_of x.sampler ds) p, r.1 ∙ ap (λ (x : Sampled). end_of x.sampler ds) p)
runs_same t s e (alike-closes trial {cs} {ds} rest) =
    let r = runs_same t (call_of s (closes trial)).sampler (settings-kept s (closes trial) ∙ e) rest in
    (ap (λ (x : List (Result Answer Refusal)). (call_of s (closes trial)).answer ∷ x) r.0, r.1)
