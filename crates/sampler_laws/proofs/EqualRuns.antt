-- Demand 3: equal runs, the best point in each, and which runs are compared. Assumes nothing.
use Prim.Native.Nat.{ℕ, ◌+◌}
use mathlib.Core.Path.{◌≡◌, refl}
use mathlib.Core.List.{List, [], ◌∷◌}
use lib.ListN.{length}
use Rattle.history_view.specs.Agree.{Agree}
use Rattle.sampler_state.specs.declared.Sampler.{Sampler}
use Rattle.sampler_laws.specs.Laws.{EqualRuns}
use Rattle.sampler_laws.specs.NewTrials.{BestStored}
use Rattle.sampler_laws.specs.Runs.{asks, closes, Call, call_of, with_histories, Along, Alike, alike-none, alike-asks, alike-closes}
use Rattle.sampler_state.specs.State.{fresh_of}
use Rattle.sampler_laws.proofs.Best.{best}
use Rattle.sampler_laws.proofs.Kept.{places-kept}
use Rattle.sampler_laws.proofs.SameAnswers.{runs_same}

run-best : (s : Sampler) (cs : List Call) → length s.places ≡ 32 → Along BestStored s cs
unfolding Along
run-best s [] n = tt
run-best s (c ∷ cs) n = (best s c n, run-best (call_of s c).sampler cs (places-kept 32 s c n))

-- any two runs that differ only in histories that agree are alike
histories-alike : (n startup : ℕ) (g h : ℕ → List ℕ) → ((i : ℕ) → Agree n startup (g i) (h i)) → (cs : List Call) → Alike n startup (with_histories g cs) (with_histories h cs)
unfolding with_histories
histories-alike n startup g h a [] = alike-none
histories-alike n startup g h a (asks d trial f ∷ cs) =
    alike-asks d trial (g 0) (h 0) (a 0) (histories-alike n startup (λ i. g (i + 1)) (λ i. h (i + 1)) (λ i. a (i + 1)) cs)
histories-alike n startup g h a (closes trial ∷ cs) =
    alike-closes trial (histories-alike n startup (λ i. g (i + 1)) (λ i. h (i + 1)) (λ i. a (i + 1)) cs)

pub equal_runs : EqualRuns
equal_runs s t cs ds = (λ a. runs_same s (fresh_of s) refl a, run-best (fresh_of s) cs refl, run-best (fresh_of s) ds refl, λ g h a. histories-alike s.slots s.n_startup_trials g h a cs)
