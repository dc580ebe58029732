-- The word after a call is the word before it, moved as often as the answer says; a refused call draws nothing and hands back the sampler that it got. Assumes nothing.
use mathlib.Core.Path.{◌≡◌, refl, subst}
use Rattle.std.specs.Prelude.{Ok, Err}
use Rattle.refusal.specs.declared.Refusal.{Refusal}
use Rattle.rng_util.specs.Generator.{moved_of}
use Rattle.common.proofs.Moves.{Moved, random-moves}
use Rattle.sampler_state.specs.declared.Sampler.{Sampler}
use Rattle.sampler_state.specs.State.{held_by}
use Rattle.sampler_laws.specs.declared.Accepted.{Accepted}
use Rattle.sampler_laws.specs.declared.Sampled.{Sampled}
use Rattle.sampler_laws.specs.Calls.{refused_of, answered_of}
use Rattle.sampler_laws.specs.NewTrials.{served_history}
use Rattle.sampler_laws.specs.Runs.{asks, closes, Call, call_of, drawn_in}
use Rattle.sampler_laws.proofs.OneTrial.{serving-moves}
use Rattle.sampler_laws.proofs.Ways.{by-sample, by-close}

-- an answer to a call on s
pub record Right (s : Sampler) (r : Sampled) : Type 0 where
  pub moves : r.sampler.word ≡ moved_of (drawn_in r) s.word
  pub refused : (cause : Refusal) → r.answer ≡ Err cause → (drawn_in r ≡ 0) × (r.sampler ≡ s)

no : (s : Sampler) (c : Refusal) → Right s (refused_of s c)
no s c = record { moves = unfold moved_of in refl; refused = λ _ e. (refl, refl) }

accepted : (s : Sampler) (a : Accepted) → a.sampler.word ≡ moved_of a.answer.drawn s.word → Right s (answered_of s (Ok a))
accepted s a m = record { moves = m; refused = λ _ q. absurd (cc) }

pub call : (s : Sampler) (c : Call) → Right s (call_of s c)
call s (asks d trial h) =
    by-sample s d trial h (Right s) (λ c _. no s c) (λ r _ _ _ x e. accepted s _ (subst (Moved s.word) e (random-moves s.word r)).next)
    (λ r _ _ _ v e. accepted s _ (serving-moves s.settings s.dimensions.list s.dimensions.count s.word (held_by s.places trial) r trial (served_history s h) v e))
call s (closes trial) = by-close s trial (Right s) (λ c _ _. no s c) (λ c _ _ _. no s c) (λ _ _. accepted s _ (unfold moved_of in refl))
