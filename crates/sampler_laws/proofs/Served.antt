-- What an accepted call answers is what is stored in the trial's place, or drawn from the distribution asked, and every other place is as it was. Assumes nothing.
use Rattle.std.specs.Prelude.{Option, Some, None, Ok}
use Prim.Native.Nat.{ℕ, ◌<◌}
use mathlib.Core.Path.{◌≡◌, refl, sym, ap, ◌∙◌, subst}
use mathlib.Core.Bool.{Bool, true, false, not}
use mathlib.Core.List.{List}
use mathlib.Core.Logic.{inl, inr}
use lib.Dec.{T}
use lib.ListN.{length}
use lib.Seq.{get_or-set_same, get_or-set_other}
use lib.Ieee.Fits.{eq→eqb}
use borrow.Author.Tests.{ne_eqb}
use Rattle.arith.proofs.Lists.{place-before}
use Rattle.rng_util.specs.declared.Draw.{Draw}
use Rattle.distribution.specs.declared.Distribution.{Distribution}
use Rattle.distribution.specs.declared.ParamValue.{ParamValue}
use Rattle.common.specs.Random.{sample_random_of}
use Rattle.sampler_state.specs.declared.Place.{Place}
use Rattle.sampler_state.specs.declared.Sampler.{Sampler}
use Rattle.sampler_state.specs.State.{empty_place, place_at, taken, holds, trial_place, free_place, held_by, fresh_of}
use Rattle.sampler_state.proofs.Held.{own-or-none, free-empty, spot-own, spot-other, spot-once, emptied-other, emptied-own}
use Rattle.sampler_laws.specs.declared.Accepted.{Accepted}
use Rattle.sampler_laws.specs.declared.Answer.{Answer}
use Rattle.sampler_laws.specs.declared.Sampled.{Sampled}
use Rattle.sampler_laws.specs.declared.Serving.{Serving}
use Rattle.sampler_laws.specs.Calls.{answered_of, activated, with_dimension, drawn_of, next_of, stored_of, written_of, spot_of, freed_of}
use Rattle.sampler_laws.specs.Laws.{Typed, CallsServed}
use Rattle.sampler_laws.specs.NewTrials.{past_discovery, served_history, RandomStored}
use Rattle.sampler_laws.specs.Runs.{Asked, asks, closes, Call, call_of, read_asked}
use Rattle.sampler_laws.specs.Served.{AnswersDraw, PastDiscovery, SampleServed, in_discovery, new_trial, next_value, past_last, Closed, ServedRight}
use Rattle.sampler_laws.proofs.Best.{random}
use Rattle.sampler_laws.proofs.Kept.{settings-kept}
use Rattle.sampler_laws.proofs.OneTrial.{by-served, serves-own}
use Rattle.sampler_laws.proofs.Parts.{Well, well}
use Rattle.sampler_laws.proofs.Ways.{Passed, served_now, by-sample, by-close}
use Rattle.sampler_laws.proofs.WellFormed.{along, fresh}

-- what holds of the answer made holds of the answer given
accepted : (s : Sampler) (x : Accepted) (Q : Answer → Type 0) → Q x.answer → (a : Answer) → (answered_of s (Ok x)).answer ≡ Ok a → Q a
accepted s x Q q a e = let f : x.answer ≡ a = cc in subst Q f q

-- ---- a trial served and put back

module _ (s : Sampler) (g : Well s) (trial : ℕ) (l : spot_of s trial < 32) (v : Serving) (own : v.place.trial ≡ trial) where
  abbrev i : ℕ
  i = spot_of s trial

  abbrev after : Sampler
  after = (written_of (activated s) i v).sampler

  found : trial_place after.places trial ≡ i
  found =
      sym (ap (trial_place after.places) own)
      ∙ spot-once s.places g.typed.places g.ok.once trial v.place l own i v.place l (get_or-set_same s.places i (Some v.place) empty_place (rw g.typed.places l))

  held : held_by after.places trial ≡ Some v.place
  held = spot-own s.places g.typed.places trial (Some v.place) l (eq→eqb own)

  kept : past_discovery s trial ≡ true → PastDiscovery s trial after
  kept past = record {
    past = past;
    active = refl;
    dimensions = refl;
    discovery_trial = refl;
    placed = rw found l;
    others = record {
      places = λ j x. get_or-set_other s.places i j (Some v.place) empty_place (λ e. x (e ∙ sym found));
      trials = λ u x. spot-other s.places g.typed.places trial (Some v.place) l u x (ne_eqb v.place.trial u (λ e. x (sym e ∙ own)));
    };
  }

-- a trial for which the empty place is found has none
without : (s : Sampler) → length s.places ≡ 32 → (trial : ℕ) → held_by s.places trial ≡ None → (trial_place s.places trial ≡ 32) × (spot_of s trial ≡ free_place s.places)
without s n trial e = elim (own-or-none s.places n trial) [ inl o ↦ absurd (subst (λ (p : Option Place). T (holds trial p)) e o.held) | inr o ↦ (o.none, o.spot) ]

-- before the first free place all are taken
taken-before : (ps : List (Option Place)) (j : ℕ) → j < free_place ps → T (taken (place_at ps j))
unfolding free_place
taken-before ps j l = go (taken (place_at ps j)) (place-before 32 (λ i. not (taken (place_at ps i))) j l)
  where
    go : (b : Bool) → not b ≡ false → T b
    go true e = tt
    go false e = cc

module _ (s : Sampler) (t : Typed s) (d : Asked) (trial : ℕ) (h : List ℕ) where
  abbrev Right : Sampled → Type 0
  Right r = (a : Answer) → r.answer ≡ Ok a → SampleServed s d trial a r.sampler

  answers : (r : Distribution) → read_asked d ≡ Some r → (x : Draw ParamValue) → sample_random_of s.word r ≡ Ok x → (drawn : ℕ) → AnswersDraw s d (record { value = Some x.value; drawn = drawn })
  answers r e x y drawn = record { distribution = r; read = e; answered = x.value; drawn = record { draw = x; drawn = y; value = refl }; value = refl }

  -- a serving put back
  abbrev Put : Serving → Type 0
  Put v = v.place.trial ≡ trial → SampleServed s d trial (written_of (activated s) (spot_of s trial) v).answer (written_of (activated s) (spot_of s trial) v).sampler

  put : (r : Distribution) → Passed s d h r → past_discovery s trial ≡ true → spot_of s trial < 32 → (v : Serving) → served_now s r trial h ≡ Ok v → Put v
  put r p past l =
      let g = well s t p.ok in
      by-served s.settings s.dimensions.list s.dimensions.count s.word (held_by s.places trial) r trial (served_history s h) Put
      (λ q f m o.
      let v = next_of s.word q in
      next_value (kept s g trial l v o past) (record { before = q; held_before = f; more = m; value = refl; place = v.place; held = held s g trial l v o; trial_is = refl; values = refl; next = refl }))
      (λ q f m x y o.
      let v : Serving = record { draw = x; place = q } in
      past_last (kept s g trial l v o past) (record { place = q; held_before = f; no_more = m; answers = answers r p.read x y x.drawn; held = held s g trial l v o }))
      (λ f c y o.
      let v = stored_of trial c in
      let w = without s t.places trial f in
      let i : trial_place (after s g trial l v o).places trial ≡ free_place s.places = found s g trial l v o ∙ w.1 in
      new_trial (kept s g trial l v o past) (record {
        none = w.0;
        place = v.place;
        held = held s g trial l v o;
        trial_is = refl;
        next = refl;
        value = refl;
        free = ap (place_at s.places) i ∙ free-empty s.places (subst (λ (k : ℕ). k < 32) w.1 l);
        first = λ j m. taken-before s.places j (subst (λ (k : ℕ). j < k) i m);
      }))

  sampled : Right (call_of s (asks d trial h))
  unfolding answers
  sampled =
      by-sample s d trial h Right (λ c _ a e. absurd (cc))
      (λ r p past _ x e.
      let z = drawn_of (with_dimension s trial r) x in
      accepted s z (λ a. SampleServed s d trial a z.sampler)
      (in_discovery (record { discovers = past; answers = answers r p.read x e x.drawn; count = refl; dimensions = refl; discovery_trial = refl; active = refl; places = refl })))
      (λ r p past l v e.
      let z = written_of (activated s) (spot_of s trial) v in
      accepted s z (λ a. SampleServed s d trial a z.sampler) (put r p past l v e (serves-own s t.places r trial (served_history s h) v e)))

-- ---- a close

closed : (s : Sampler) → Typed s → (trial : ℕ) → (a : Answer) → (call_of s (closes trial)).answer ≡ Ok a → Closed s trial a (call_of s (closes trial)).sampler
closed s t trial =
    by-close s trial (λ r. (a : Answer) → r.answer ≡ Ok a → Closed s trial a r.sampler) (λ _ _ _ a e. absurd (cc)) (λ _ _ _ _ a e. absurd (cc))
    (λ o l. accepted s (freed_of s trial) (λ a. Closed s trial a (freed_of s trial).sampler) (record {
      value = refl;
      word = refl;
      active = refl;
      dimensions = refl;
      discovery_trial = refl;
      placed = l;
      freed = get_or-set_same s.places (trial_place s.places trial) empty_place empty_place (rw t.places l);
      none = emptied-own s.places t.places (well s t o).ok.once trial l;
      others = record {
        places = λ j x. get_or-set_other s.places (trial_place s.places trial) j empty_place empty_place x;
        trials = λ u x. emptied-other s.places t.places trial l u x;
      };
    }))

-- ---- every call, and along a run

right : (s : Sampler) (c : Call) → Typed s → ServedRight s c
right s (asks d trial h) t a e = record { settings = settings-kept s (asks d trial h); call = sampled s t d trial h a e }
right s (closes trial) t a e = record { settings = settings-kept s (closes trial); call = closed s t trial a e }

pub calls_served : CallsServed
calls_served = record {
  call = right;
  run = λ s l o cs. along ServedRight (λ t c g. right t c g.typed) (fresh_of s) cs (fresh s l o);
  values = random;
  run_values = λ s l o cs. along RandomStored (λ t c g. random t c g.typed) (fresh_of s) cs (fresh s l o);
}
