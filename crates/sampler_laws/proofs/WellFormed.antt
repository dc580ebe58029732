-- A sampler as made is well_formed, and so is one after a call on a well_formed one: no call of a run meets 11. Assumes nothing.
use Prim.Native.Nat.{ℕ, ◌^◌, ◌<◌}
use native.Mathlib.Nat.{not-suc-le-zero}
use native.Mathlib.Omega.{arith}
use Rattle.std.specs.Prelude.{Option, Some, None, Ok, Err}
use Rattle.refusal.specs.declared.Refusal.{Refusal}
use Rattle.refusal.specs.Numbers.{cause_number, number_of}
use mathlib.Core.Path.{◌≡◌, refl, sym, ap, ◌∙◌, subst}
use mathlib.Core.Bool.{Bool, true, false, not, ◌||◌, true≢false}
use mathlib.Core.List.{List, [], ◌∷◌}
use mathlib.Core.Logic.{inl, inr}
use lib.Dec.{T, T_not, eqb, leb→le}
use lib.ListN.{set, get_or-replicate}
use borrow.Author.Tests.{eqb-false}
use Rattle.arith.specs.Lists.{every}
use Rattle.arith.proofs.Tests.{taken as passed, untaken}
use Rattle.distribution.proofs.Facts.{parts}
use Rattle.rng_util.proofs.Nonzero.{moved-nonzero, Nonzero}
use Rattle.distribution.specs.declared.Distribution.{Distribution}
use Rattle.distribution.specs.Shape.{shape_of}
use Rattle.distribution_words.specs.RoundTrip.{Held}
use Rattle.common.specs.Random.{sample_random_of}
use Rattle.common.proofs.Moves.{Moved, random-moves}
use Rattle.proposal.proofs.Ranges.{random-ranged}
use Rattle.dimensions.specs.Dimensions.{dimensions_ok}
use Rattle.settings.specs.declared.Settings.{Settings}
use Rattle.settings.specs.Settings.{settings_ok}
use Rattle.sampler_state.specs.declared.Place.{Place}
use Rattle.sampler_state.specs.declared.Sampler.{Sampler}
use Rattle.sampler_state.specs.State.{empty_place, fresh_of, place_at, trial_place, held_by, progress_ok, place_ok, sampler_ok}
use Rattle.sampler_state.proofs.Held.{Once, own-or-none, spot-once, emptied-once}
use Rattle.sampler_laws.specs.declared.Accepted.{Accepted}
use Rattle.sampler_laws.specs.declared.Sampled.{Sampled}
use Rattle.sampler_laws.specs.declared.Serving.{Serving}
use Rattle.sampler_laws.specs.Calls.{answered_of, with_place, activated, with_dimension, drawn_of, written_of, spot_of, freed_of}
use Rattle.sampler_laws.specs.Laws.{WellFormed}
use Rattle.sampler_laws.specs.NewTrials.{past_discovery, served_history}
use Rattle.sampler_laws.specs.Runs.{Asked, asks, closes, Call, call_of, call_number, Along}
use Rattle.distribution_words.proofs.RoundTrip.{read_held}
use Rattle.sampler_laws.proofs.Changes.{free-ok, taken-ok, ok-taken, dimension-formed, with-word, with-place, ended, with-dimension}
use Rattle.sampler_laws.proofs.Nothing.{served-accepted, refusal-small}
use Rattle.sampler_laws.proofs.OneTrial.{Ranged, serving-nonzero, serving-ranged, serves-own}
use Rattle.sampler_laws.proofs.Parts.{Well, well, parts-ok, ready}
use Rattle.sampler_laws.proofs.Ways.{Passed, served_now, Refusing, malformed-sampler, malformed-asked, bad-history, no-dimension, no-draw, no_place, no-values, discovering, is-activated, by-sample, by-close}

-- ---- a serving written back

-- a place in range and a word, where no trial gets a second place
put-well : (s : Sampler) → Well s → s.active ≡ true → (i : ℕ) (v : Serving) → i < 32 → T (progress_ok s.dimensions.list s.dimensions.count v.place) → Nonzero v.draw.next → Once (set s.places i (Some v.place)) → Well (written_of s i v).sampler
put-well s g a i v l ok z once =
    with-word (with_place s i (Some v.place)) (with-place s g i (Some v.place) l (taken-ok s.active s.dimensions.list s.dimensions.count v.place (passed a) ok) once) v.draw.next z

-- ---- a sample call

-- an answer with a well_formed sampler that is not 11
pub record Good (r : Sampled) : Type 0 where
  pub well : Well r.sampler
  pub answered : call_number r ≡ 11 → ⊥

accepted : (s : Sampler) (a : Accepted) → Well a.sampler → Good (answered_of s (Ok a))
accepted s a w = record { well = w; answered = λ n. omega arith }

module _ (s : Sampler) (g : Well s) where
  -- past discovery the sampler goes on as an active one
  goes_on : (trial : ℕ) → past_discovery s trial ≡ true → Well (activated s)
  goes_on trial = go s.active (eqb s.dimensions.count 0) refl refl
    where
      go : (a b : Bool) → s.active ≡ a → eqb s.dimensions.count 0 ≡ b → a || not (b || eqb trial s.discovery_trial_id) ≡ true → Well (activated s)
      go true b e z past = subst Well (sym (is-activated s e)) g
      go false true e z past = absurd (true≢false (sym past))
      go false false e z past = ended s g e (eqb-false s.dimensions.count 0 z)

  -- a trial with a place: discovery has ended, and what the place holds is in range
  pub record Placed (trial : ℕ) (q : Place) : Type 0 where
    pub below : trial_place s.places trial < 32
    pub active : T s.active
    pub progress : T (progress_ok s.dimensions.list s.dimensions.count q)

  pub placed : (trial : ℕ) (q : Place) → held_by s.places trial ≡ Some q → Placed trial q
  placed trial q e = elim (own-or-none s.places g.typed.places trial) [
    | inl o ↦
        let f = ok-taken s.active s.dimensions.list s.dimensions.count q (subst (λ (p : Option Place). T (place_ok s.active s.dimensions.list s.dimensions.count p)) e (g.ok.places _ o.below)) in
        record { below = o.below; active = f.0; progress = f.1 }
    | inr o ↦ absurd (let z = sym o.empty ∙ e in cc)
  ]

  module _ (d : Asked) (trial : ℕ) (h : List ℕ) where
    held-read : (r : Distribution) → Passed s d h r → Held r × T (shape_of r)
    held-read r p = read_held d.kind d.low d.high d.log d.stepped d.step r p.read

    served : (r : Distribution) (p : Passed s d h r) → past_discovery s trial ≡ true → Ranged s.settings s.dimensions.list s.dimensions.count s.word (held_by s.places trial) r trial (served_history s h) (served_now s r trial h)
    served r p past =
        let f = held-read r p in
        serving-ranged s.settings s.dimensions.list s.dimensions.count s.word (held_by s.places trial) r trial (served_history s h) (ready s g) (leb→le 1 s.dimensions.count (goes_on trial past).ok.some)
        (served-accepted s h g.ok.settings p.history) (λ q e. (placed trial q e).progress) f.0 f.1

    -- no draw from a distribution asked is refused, and no serving
    pub draws : (r : Distribution) → Passed s d h r → (c : Refusal) → sample_random_of s.word r ≡ Err c → ⊥
    draws r p c x = let f = held-read r p in let z = sym (random-ranged s.word r (ready s g).nonzero f.0 f.1).is ∙ x in cc

    pub serves : (r : Distribution) → Passed s d h r → past_discovery s trial ≡ true → (c : Refusal) → served_now s r trial h ≡ Err c → ⊥
    serves r p past c x = let z = sym (served r p past).is ∙ x in cc

    not-11 : {c : Refusal} → Refusing s d trial h c → cause_number c ≡ 11 → ⊥
    not-11 (malformed-sampler c n x) e = T_not (sampler_ok s) (untaken x) (parts-ok s g.ok)
    not-11 (malformed-asked c n o q) e = omega arith
    not-11 (bad-history o r q c x) e = let l = refusal-small s.settings h g.ok.settings in let n = ap number_of x in omega arith
    not-11 (no-dimension c n r p q x) e = omega arith
    not-11 (no-draw r p c x) e = absurd (draws r p c x)
    not-11 (no_place c n r p q l) e = omega arith
    not-11 (no-values r p past c x) e = absurd (serves r p past c x)

    sampled : Good (call_of s (asks d trial h))
    sampled =
        by-sample s d trial h Good (λ c x. record { well = g; answered = λ e. not-11 x e })
        (λ r p a n x e.
        let f = held-read r p in
        let w = with-dimension s g trial r (discovering s trial a) n (dimension-formed r f.0 f.1) in
        accepted s (drawn_of (with_dimension s trial r) x) (with-word (with_dimension s trial r) w x.next (subst Nonzero (sym (subst (Moved s.word) e (random-moves s.word r)).next) (moved-nonzero x.drawn s.word (ready s g).nonzero))))
        (λ r p past l v e.
        let x = served r p past in
        let f : x.serving ≡ v = (let z = sym x.is ∙ e in cc) in
        let own = serves-own s g.typed.places r trial (served_history s h) v e in
        accepted s (written_of (activated s) (spot_of s trial) v)
        (put-well (activated s) (goes_on trial past) refl (spot_of s trial) v l (subst (λ (v : Serving). T (progress_ok s.dimensions.list s.dimensions.count v.place)) f x.place)
        (serving-nonzero s.settings s.dimensions.list s.dimensions.count s.word (held_by s.places trial) r trial (served_history s h) (ready s g).nonzero v e)
        (spot-once s.places g.typed.places g.ok.once trial v.place l own)))

  close : (trial : ℕ) → Good (call_of s (closes trial))
  close trial =
      by-close s trial Good (λ _ _ e. absurd (T_not (sampler_ok s) (untaken e) (parts-ok s g.ok))) (λ c n _ _. record { well = g; answered = λ e. omega arith })
      (λ _ l. accepted s (freed_of s trial) (with-place s g _ empty_place l (free-ok s.active s.dimensions.list s.dimensions.count empty_place refl) (emptied-once s.places g.typed.places g.ok.once trial l)))

good : (s : Sampler) (c : Call) → Well s → Good (call_of s c)
good s (asks d trial h) g = sampled s g d trial h
good s (closes trial) g = close s g trial

-- ---- as made, and along a run

pub fresh : (s : Settings) → s.seed < 2 ^ 64 → T (settings_ok s) → Well (fresh_of s)
fresh s l o = record {
  typed = record { word = l; dimensions = refl; places = refl; held = λ j m. absurd (not-suc-le-zero m); ends = λ j m. absurd (not-suc-le-zero m) };
  ok = record {
    settings = o;
    word = seed o;
    dimensions = unfold dimensions_ok every in tt;
    some = tt;
    places = λ i m. free-ok false (fresh_of s).dimensions.list 0 (place_at (fresh_of s).places i) (empty i m);
    once = λ j q m x. absurd (let z = sym (empty j m) ∙ x in cc);
  };
}
  where
    seed : T (settings_ok s) → T (not (eqb s.seed 0))
    seed o = unfold settings_ok in search parts depth 9

    empty : (i : ℕ) → i < 32 → place_at (fresh_of s).places i ≡ None
    empty i m = get_or-replicate 32 i empty_place empty_place m

-- what holds of every call on a well-formed sampler holds of each call of a run
pub along : (P : Sampler → Call → Type 0) → ((s : Sampler) (c : Call) → Well s → P s c) → (s : Sampler) (cs : List Call) → Well s → Along P s cs
unfolding Along
along P f s [] g = tt
along P f s (c ∷ cs) g = (f s c g, along P f (call_of s c).sampler cs (good s c g).well)

pub well_formed : WellFormed
well_formed = record {
  fresh = λ s l o. let g = fresh s l o in (g.typed, parts-ok (fresh_of s) g.ok);
  call = λ s c t o. let g = (good s c (well s t o)).well in (g.typed, parts-ok (call_of s c).sampler g.ok);
  run = λ s l o cs. along (λ t c. call_number (call_of t c) ≡ 11 → ⊥) (λ t c g. (good t c g).answered) (fresh_of s) cs (fresh s l o);
}
