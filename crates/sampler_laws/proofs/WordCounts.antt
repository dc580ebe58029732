-- How many words an accepted call draws: a new trial the dimension count, or with a model candidates × continuous + choices; a stored value 0; any other 1. Assumes nothing.
use Prim.Native.Nat.{ℕ}
use mathlib.Core.Path.{◌≡◌, refl, sym, ap, ◌∙◌}
use mathlib.Core.Bool.{false}
use lib.Dec.{T}
use mathlib.Core.Bool.{true, ◌&&◌, cond}
use mathlib.Core.List.{List}
use mathlib.Core.Logic.{inl, inr}
use native.Mathlib.Omega.{arith}
use lib.Dec.{eqb}
use borrow.Author.Tests.{eq-eqb, ne_eqb}
use Rattle.distribution.specs.declared.Distribution.{Distribution}
use Rattle.history_view.proofs.Values.{floats-fit}
use Rattle.proposal.proofs.WordCount.{random-word}
use Rattle.sampler_state.specs.declared.Sampler.{Sampler}
use Rattle.sampler_state.specs.State.{holds, trial_place, held_by}
use Rattle.sampler_state.proofs.Held.{own-or-none, holds-taken}
use Rattle.std.specs.Prelude.{Option, Some, None, Ok, is_ok}
use Rattle.refusal.specs.declared.Refusal.{Refusal}
use Rattle.rng_util.specs.Draws.{drawn_by}
use Rattle.arith.proofs.Tests.{taken as passed}
use Rattle.sampler_state.specs.declared.Place.{Place}
use Rattle.sampler_laws.specs.declared.Accepted.{Accepted}
use Rattle.sampler_laws.specs.declared.Answer.{Answer}
use Rattle.sampler_laws.specs.declared.Sampled.{Sampled}
use Rattle.sampler_laws.specs.Calls.{refused_of, answered_of, with_dimension, activated, drawn_of, written_of, spot_of, freed_of}
use Rattle.sampler_laws.specs.Laws.{Typed, WordsDrawn, stored_next, words_taken}
use Rattle.sampler_laws.specs.NewTrials.{past_discovery, new_trial, served_history, has_model}
use Rattle.sampler_laws.specs.Runs.{Asked, asks, closes, Call, call_of}
use Rattle.distribution_words.proofs.RoundTrip.{read_held}
use Rattle.sampler_laws.proofs.Parts.{well, ready, taken-active}
use Rattle.sampler_laws.proofs.OneTrial.{words_for, serving-words}
use Rattle.sampler_laws.proofs.Ways.{Passed, discovering, by-sample, by-close}
use Rattle.sampler_laws.proofs.Words.{call}

-- an accepted answer draws so many words
abbrev Draws : ℕ → Sampled → Type 0
Draws n r = (a : Answer) → r.answer ≡ Ok a → a.drawn ≡ n

accepted : (s : Sampler) (n : ℕ) (x : Accepted) → x.answer.drawn ≡ n → Draws n (answered_of s (Ok x))
accepted s n x e a f = let g : x.answer ≡ a = cc in rw (sym g) e

refused : (s : Sampler) (n : ℕ) (c : Refusal) → Draws n (refused_of s c)
refused s n c a e = absurd (cc)

module _ (s : Sampler) (t : Typed s) (d : Asked) (trial : ℕ) (h : List ℕ) where
  abbrev words : Option Place → ℕ
  words p = words_for s.settings s.dimensions.list s.dimensions.count p (served_history s h)

  abbrev taking : ℕ
  taking = cond (past_discovery s trial && eqb (trial_place s.places trial) 32) (words None) (cond (stored_next s trial) 0 1)

  module _ (r : Distribution) (p : Passed s d h r) where
    -- past discovery: by the trial's place
    by_place : past_discovery s trial ≡ true → words (held_by s.places trial) ≡ taking
    by_place past = elim (own-or-none s.places t.places trial) [
      | inl o ↦ (let b = o.below in
          let a = taken-active s p.ok (trial_place s.places trial) b (passed (holds-taken trial (held_by s.places trial) o.held)) in
          let x = ne_eqb (trial_place s.places trial) 32 (λ z. omega arith) in go (held_by s.places trial) refl a x o.held)
      | inr o ↦ rw (o.empty, past, eq-eqb (trial_place s.places trial) 32 o.none)
    ]
      where
        go : (q : Option Place) → held_by s.places trial ≡ q → s.active ≡ true → eqb (trial_place s.places trial) 32 ≡ false → T (holds trial q) → words q ≡ taking
        go (Some q) e a x h = rw (past, x, a, e)
        go None e a x h = absurd h

  sampled : Draws taking (call_of s (asks d trial h))
  sampled =
      by-sample s d trial h (Draws taking) (λ c _. refused s taking c)
      (λ r p a _ x e.
      let g = ready s (well s t p.ok) in
      let f = read_held d.kind d.low d.high d.log d.stepped d.step r p.read in
      accepted s taking (drawn_of (with_dimension s trial r) x) (rw (a, discovering s trial a) (sym (ap drawn_by e) ∙ random-word s.word r g.nonzero (floats-fit r f.0, f.1))))
      (λ r p a _ v e.
      let g = ready s (well s t p.ok) in
      let f = read_held d.kind d.low d.high d.log d.stepped d.step r p.read in
      accepted s taking (written_of (activated s) (spot_of s trial) v)
      (serving-words s.settings s.dimensions.list s.dimensions.count s.word (held_by s.places trial) r trial (served_history s h) g.nonzero t.held (floats-fit r f.0, f.1) v e ∙ by_place r p a))

counts : (s : Sampler) (c : Call) (a : Answer) → Typed s → (call_of s c).answer ≡ Ok a → a.drawn ≡ words_taken s c
unfolding words_taken new_trial has_model
counts s (asks d trial h) a t e = rw (ap is_ok e) (sampled s t d trial h a e)
counts s (closes trial) a t e = by-close s trial (Draws 0) (λ c _ _. refused s 0 c) (λ c _ _ _. refused s 0 c) (λ _ _. accepted s 0 (freed_of s trial) refl) a e

pub words_drawn : WordsDrawn
words_drawn = record { moves = λ s c. (call s c).moves; refused = λ s c. (call s c).refused; counts = counts }
