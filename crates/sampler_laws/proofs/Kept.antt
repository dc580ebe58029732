-- What every change of a sampler keeps, every call keeps. Assumes nothing.
use Prim.Native.Nat.{ℕ}
use mathlib.Core.Path.{◌≡◌, refl, ◌∙◌}
use lib.ListN.{length, length-set}
use Rattle.distribution.specs.declared.Distribution.{Distribution}
use Rattle.std.specs.Prelude.{Option}
use Rattle.sampler_state.specs.declared.Place.{Place}
use Rattle.sampler_state.specs.declared.Sampler.{Sampler}
use Rattle.sampler_laws.specs.Calls.{with_word, with_place, with_dimension, activated}
use Rattle.sampler_laws.specs.Runs.{asks, closes, Call, call_of}
use Rattle.sampler_laws.proofs.Ways.{by-sample, by-close}

-- a property that no change of a field touches
pub record Lasting (P : Sampler → Type 0) : Type 0 where
  pub word : (s : Sampler) (w : ℕ) → P s → P (with_word s w)
  pub place : (s : Sampler) (i : ℕ) (p : Option Place) → P s → P (with_place s i p)
  pub ended : (s : Sampler) → P s → P (activated s)
  pub dimension : (s : Sampler) (trial : ℕ) (d : Distribution) → P s → P (with_dimension s trial d)

pub call_kept : (P : Sampler → Type 0) → Lasting P → (s : Sampler) (c : Call) → P s → P (call_of s c).sampler
call_kept P k s (asks d trial h) p =
    by-sample s d trial h (λ r. P r.sampler) (λ _ _. p) (λ r _ _ _ _ _. k.word (with_dimension s trial r) _ (k.dimension s trial r p))
    (λ r _ _ _ _ _. k.word (with_place (activated s) _ _) _ (k.place (activated s) _ _ (k.ended s p)))
call_kept P k s (closes trial) p = by-close s trial (λ r. P r.sampler) (λ _ _ _. p) (λ _ _ _ _. p) (λ _ _. k.place s _ _ p)

-- the settings, and how many places there are
pub settings-kept : (s : Sampler) (c : Call) → (call_of s c).sampler.settings ≡ s.settings
settings-kept s c = call_kept (λ t. t.settings ≡ s.settings) (record { word = λ t w p. p; place = λ t i q p. p; ended = λ t p. p; dimension = λ t n d p. p }) s c refl

pub places-kept : (n : ℕ) (s : Sampler) (c : Call) → length s.places ≡ n → length (call_of s c).sampler.places ≡ n
places-kept n = call_kept (λ t. length t.places ≡ n) (record { word = λ t w p. p; place = λ t i q p. length-set t.places i q ∙ p; ended = λ t p. p; dimension = λ t m d p. p })
