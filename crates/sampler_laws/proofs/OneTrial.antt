-- What serving one trial does, by its three ways: the generator's moves, the place after it, whether it is accepted, and how it sees a history. Assumes nothing.
use Rattle.std.specs.Prelude.{Option, Some, None, Result, Ok, Err, is_ok}
use Prim.Native.Nat.{ℕ, ◌+◌, ◌-◌, ◌*◌, ◌≤◌, ◌<◌}
use native.Mathlib.Omega.{arith}
use mathlib.Core.Path.{◌≡◌, refl, sym, ap, ◌∙◌, subst}
use mathlib.Core.Bool.{◌&&◌, cond}
use mathlib.Core.List.{List}
use lib.Dec.{T, leb, le→leb, ltb}
use lib.ListN.{length}
use lib.Ieee.Fits.{and_i}
use borrow.Author.Tests.{ltb-true, ltb-false, lt-ltb, le-ltb}
use Rattle.refusal.specs.declared.Refusal.{Refusal}
use Rattle.arith.specs.Lists.{every}
use Rattle.arith.specs.Outcome.{made}
use Rattle.arith.proofs.Lists.{each-every, every-each}
use Rattle.arith.proofs.Tests.{by-test}
use Rattle.rng_util.specs.declared.Draw.{Draw}
use Rattle.rng_util.specs.Draws.{drawn_by}
use Rattle.rng_util.specs.Generator.{moved_of}
use Rattle.rng_util.proofs.Nonzero.{Nonzero, moved-nonzero}
use Rattle.distribution.specs.declared.Distribution.{Distribution}
use Rattle.distribution.specs.declared.ParamValue.{ParamValue}
use Rattle.distribution.specs.Range.{in_range}
use Rattle.distribution.specs.Shape.{shape_of}
use Rattle.distribution.proofs.Facts.{parts}
use Rattle.distribution_words.specs.RoundTrip.{Held}
use Rattle.common.specs.Random.{sample_random_of}
use Rattle.common.proofs.Moves.{Moved, random-moves}
use Rattle.dimensions.specs.declared.DimensionInfo.{DimensionInfo}
use Rattle.dimensions.specs.Dimensions.{dimension_at, columns_of}
use Rattle.history_rows.specs.Tests.{check_of}
use Rattle.history_view.specs.View.{view_of, seen_of}
use Rattle.settings.specs.declared.Settings.{Settings}
use Rattle.proposal.specs.Points.{fit_for}
use Rattle.proposal.specs.Proposal.{compute_candidate_of}
use Rattle.proposal.proofs.Moving.{compute-moves}
use Rattle.proposal.proofs.Ranges.{random-ranged}
use Rattle.proposal.proofs.WordCount.{Drawable, random-word, compute-words}
use Rattle.sampler_state.specs.declared.Place.{Place}
use Rattle.sampler_state.specs.declared.Sampler.{Sampler}
use Rattle.sampler_state.specs.State.{held_by, stored_at, progress_ok}
use Rattle.sampler_state.proofs.Held.{held-own}
use Rattle.sampler_laws.specs.declared.Serving.{Serving}
use Rattle.sampler_laws.specs.Calls.{next_of, past_of, stored_of, new_trial_of, serving_of, serving_for}
use Rattle.sampler_laws.proofs.Nothing.{values-made}
use Rattle.sampler_laws.proofs.Parts.{Ready}

-- it sees a history only through its view
pub serving-same : (settings : Settings) (dims : List DimensionInfo) (k word : ℕ) (p : Option Place) (d : Distribution) (trial : ℕ) (g h : List ℕ)
    → view_of settings.slots settings.n_startup_trials dims k g ≡ view_of settings.slots settings.n_startup_trials dims k h
    → serving_of settings dims k word p d trial g ≡ serving_of settings dims k word p d trial h
unfolding serving_of compute_candidate_of
serving-same settings dims k word (Some p) d trial g h v = refl
serving-same settings dims k word None d trial g h v = rw v refl

-- the words of a new trial's values: "the dimension count, or with a model candidates × continuous + choices"
abbrev pub new_words : Settings → List DimensionInfo → ℕ → List ℕ → ℕ
new_words settings dims k h =
    let v = seen_of settings.slots settings.n_startup_trials dims k h in
    let columns = length (columns_of dims k) in
    cond ((v.reached && leb 1 v.training.d) && is_ok (fit_for v.training settings.noise_variance)) (settings.n_candidates * columns + (k - columns)) k

-- the words of a trial with that place: none for a stored value, one past the last, and those of a new trial's values
abbrev pub words_for : Settings → List DimensionInfo → ℕ → Option Place → List ℕ → ℕ
words_for settings dims k (Some p) h = cond (ltb p.next_dim k) 0 1
words_for settings dims k None h = new_words settings dims k h

-- the distribution that is answered for: the dimension's, or past the last the one asked
abbrev pub answered_for : List DimensionInfo → ℕ → Option Place → Distribution → Distribution
answered_for dims k (Some p) d = cond (ltb p.next_dim k) (dimension_at dims p.next_dim).distribution d
answered_for dims k None d = (dimension_at dims 0).distribution

module _ (settings : Settings) (dims : List DimensionInfo) (k word : ℕ) (p : Option Place) (d : Distribution) (trial : ℕ) (h : List ℕ) where
  abbrev served : Result Serving Refusal
  served = serving_of settings dims k word p d trial h

  -- what holds of each way holds of the serving: a stored value, a draw past the last, or a new trial
  pub by-serving : (P : Result Serving Refusal → Type 0) → ((q : Place) → p ≡ Some q → q.next_dim < k → P (Ok (next_of word q))) → ((q : Place) → p ≡ Some q → k ≤ q.next_dim → P (past_of word q d))
      → (p ≡ None → P (new_trial_of settings dims k word trial h)) → P served
  unfolding serving_of
  by-serving P next past new = go p refl
    where
      go : (o : Option Place) → p ≡ o → P (serving_of settings dims k word o d trial h)
      go (Some q) e = by-test P (ltb q.next_dim k) _ _ (λ l. next q e (ltb-true q.next_dim k l)) (λ l. past q e (ltb-false q.next_dim k l))
      go None e = new e

  -- what holds of each accepted way holds of an accepted serving
  pub by-served : (P : Serving → Type 0) → ((q : Place) → p ≡ Some q → q.next_dim < k → P (next_of word q))
      → ((q : Place) → p ≡ Some q → k ≤ q.next_dim → (r : Draw ParamValue) → sample_random_of word d ≡ Ok r → P (record { draw = r; place = q }))
      → (p ≡ None → (c : Draw (List ParamValue)) → compute_candidate_of settings dims k word h ≡ Ok c → P (stored_of trial c)) → (v : Serving) → served ≡ Ok v → P v
  by-served P next past new =
      by-serving (λ x. (v : Serving) → x ≡ Ok v → P v) (λ q e l v z. let f : next_of word q ≡ v = cc in subst P f (next q e l)) (λ q e l. drawn q e l (sample_random_of word d) refl)
      (λ e. stored e (compute_candidate_of settings dims k word h) refl)
    where
      drawn : (q : Place) → p ≡ Some q → k ≤ q.next_dim → (x : Result (Draw ParamValue) Refusal) → sample_random_of word d ≡ x → (v : Serving) → made (λ r. record { draw = r; place = q }) x ≡ Ok v → P v
      drawn q e l (Ok r) z v y = let f : record { draw = r; place = q } ≡ v = cc in subst P f (past q e l r z)
      drawn q e l (Err c) z v y = absurd (cc)

      stored : p ≡ None → (x : Result (Draw (List ParamValue)) Refusal) → compute_candidate_of settings dims k word h ≡ x → (v : Serving) → made (stored_of trial) x ≡ Ok v → P v
      stored e (Ok c) z v y = let f : stored_of trial c ≡ v = cc in subst P f (new e c z)
      stored e (Err c) z v y = absurd (cc)

  -- the word is moved as often as is said
  pub serving-moves : (v : Serving) → served ≡ Ok v → v.draw.next ≡ moved_of v.draw.drawn word
  serving-moves = by-served (λ v. v.draw.next ≡ moved_of v.draw.drawn word) (λ _ _ _. unfold moved_of in refl) (λ _ _ _ r e. (subst (Moved word) e (random-moves word d)).next) (λ _ c e. compute-moves settings dims k word h c e)

  pub serving-nonzero : Nonzero word → (v : Serving) → served ≡ Ok v → Nonzero v.draw.next
  serving-nonzero z v e = subst Nonzero (sym (serving-moves v e)) (moved-nonzero v.draw.drawn word z)

  -- the place after it is the trial's
  pub serving-own : ((q : Place) → p ≡ Some q → q.trial ≡ trial) → (v : Serving) → served ≡ Ok v → v.place.trial ≡ trial
  serving-own own = by-served (λ v. v.place.trial ≡ trial) (λ q e _. own q e) (λ q e _ _ _. own q e) (λ _ _ _. refl)

  -- how many words it takes
  pub serving-words : Nonzero word → ((j : ℕ) → j < k → Held (dimension_at dims j).distribution) → Drawable d → (v : Serving) → served ≡ Ok v → v.draw.drawn ≡ words_for settings dims k p h
  serving-words z held f =
      by-served (λ v. v.draw.drawn ≡ words_for settings dims k p h) (λ q e l. rw (e, lt-ltb q.next_dim k l)) (λ q e l r y. rw (e, le-ltb q.next_dim k l) (sym (ap drawn_by y) ∙ random-word word d z f))
      (λ e c y. rw e (compute-words settings dims k word h z.1 held c y))

  -- with the parts of a well-formed sampler it is accepted, and its value and the place after it are in range
  pub record Ranged (x : Result Serving Refusal) : Type 0 where
    pub serving : Serving
    pub is : x ≡ Ok serving
    pub place : T (progress_ok dims k serving.place)
    pub value : T (in_range (answered_for dims k p d) serving.draw.value)

  pub serving-ranged : Ready settings dims k word → 1 ≤ k → check_of settings.slots h ≡ Ok tt → ((q : Place) → p ≡ Some q → T (progress_ok dims k q)) → Held d → T (shape_of d) → Ranged served
  serving-ranged g some r ok held shape =
      by-serving Ranged (λ q e l. record { serving = next_of word q; is = refl; place = further q (ok q e) l; value = rw (e, lt-ltb q.next_dim k l) (inside q (ok q e) l) })
      (λ q e l. let x = random-ranged word d g.nonzero held shape in record { serving = record { draw = x.draw; place = q }; is = rw x.is; place = ok q e; value = rw (e, le-ltb q.next_dim k l) (x.range) })
      (λ e. let m = values-made settings dims k word g h r in
      record { serving = stored_of trial m.0; is = rw m.1; place = progress (stored_of trial m.0).place (omega arith) some (each-every k _ m.2); value = rw e (m.2 0 some) })
    where
      inside : (q : Place) → T (progress_ok dims k q) → q.next_dim < k → T (in_range (dimension_at dims q.next_dim).distribution (stored_at q q.next_dim))
      inside q o l = every-each k (λ j. in_range (dimension_at dims j).distribution (stored_at q j)) (search parts) q.next_dim l

      progress : (q : Place) → 1 ≤ q.next_dim → q.next_dim ≤ k → T (every k (λ j. in_range (dimension_at dims j).distribution (stored_at q j))) → T (progress_ok dims k q)
      progress q l m v =
          let a = le→leb 1 q.next_dim l in
          let b = le→leb q.next_dim k m in
          search and_i

      further : (q : Place) → T (progress_ok dims k q) → q.next_dim < k → T (progress_ok dims k (next_of word q).place)
      further q o l = progress (next_of word q).place (omega arith) (omega arith) (search parts)

-- a trial of this sampler is left a place of its own
pub serves-own : (s : Sampler) → length s.places ≡ 32 → (d : Distribution) (trial : ℕ) (h : List ℕ) (v : Serving) → serving_for s d trial h ≡ Ok v → v.place.trial ≡ trial
serves-own s n d trial h = serving-own s.settings s.dimensions.list s.dimensions.count s.word (held_by s.places trial) d trial h (held-own s.places n trial)
