-- `sampler_state::checking::trials_once` meets its contract. Assumes nothing.
use Rattle.std.proofs.Common.{◌≡◌, ℕ, not, Option, sym, ap, ◌∙◌, refl, add-one, arith}
use Rattle.arith.specs.Lists.{every}
use Rattle.arith.proofs.Lists.{every-not}
use Rattle.sampler_state.specs.State.{empty_place, place_at, same_trial, trials_once}
use Rattle.sampler_state.specs.declared.Place.{Place}
use Rattle.std.specs.List.{list_all}
use lib.ListN.{take}
use Rattle.sampler_state.proofs.Elements.{same-element}
use Rattle.arith.proofs.Passing.{all_front}
use Rattle.sampler_state.proofs.checking.trials_once.Goals as goal
use Rattle.sampler_state.proofs.checking.trials_once.Goals.{After-is_new}

-- the test of place a by what the code says of it
tested : (c : After-is_new) → let ps = c.args.places.now in
    every c.loop-a.a (λ b. not (same_trial (place_at ps b) (place_at ps c.loop-a.a))) ≡ c.is_new.result
tested c =
    let ps = c.args.places.now in
    let a = c.loop-a.a in
    sym (c.is_new.ensures ∙ ap (λ (p : Option Place). list_all (λ (q : Option Place). not (same_trial q p)) (take a ps)) (same-element ps a _ empty_place (omega arith))
    ∙ all_front (λ (q : Option Place). not (same_trial q (place_at ps a))) ps empty_place a (omega arith))

pub loop-a-init : goal.loop-a-init
loop-a-init c = unfold every in refl

pub returns-then-not-is_new : goal.returns-then-not-is_new
unfolding trials_once
returns-then-not-is_new c =
    sym (every-not 32 _ c.loop-a.a c.loop-a-test.true (tested (goal.at.returns-then-not-is_new c).After-is_new ∙ c.if-not-is_new.true))

pub loop-a-preserved : goal.loop-a-preserved
unfolding every
loop-a-preserved c = rw (add-one, c.loop-a.invariant) (tested (goal.at.loop-a-preserved c).After-is_new ∙ c.if-not-is_new.false)

pub returns : goal.returns
unfolding trials_once
returns c =
    let ps = c.args.places.now in
    let e : c.loop-a.a ≡ 32 = omega arith in
    sym c.loop-a.invariant ∙ ap (λ (n : ℕ). every n (λ i. every i (λ b. not (same_trial (place_at ps b) (place_at ps i))))) e
