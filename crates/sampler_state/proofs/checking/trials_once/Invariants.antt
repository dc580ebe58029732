use Rattle.std.proofs.Common.{◌≡◌, true, not}
use Rattle.arith.specs.Lists.{every}
use Rattle.sampler_state.specs.State.{place_at, same_trial}
use Rattle.sampler_state.proofs.checking.trials_once.Given as goal

abbrev pub invariant-loop-a : goal.invariant-loop-a
invariant-loop-a l = every l.a (λ a. every a (λ b. not (same_trial (place_at l.places b) (place_at l.places a)))) ≡ true
