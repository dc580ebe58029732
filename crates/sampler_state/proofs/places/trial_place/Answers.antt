-- `sampler_state::places::trial_place` meets its contract. Assumes nothing.
use Rattle.std.proofs.Common.{rules, tests}
use Rattle.std.proofs.lemmas.Iterator.{YieldsList-from_slice}
use Rattle.std.proofs.lemmas.Iterator.Search.{position_from_yields_List}
use Rattle.sampler_state.specs.State.{holds}
use Rattle.sampler_state.proofs.Indices.{trial_place_is}
use Rattle.sampler_state.proofs.places.trial_place.Goals as goal

pub returns : goal.returns
returns c =
    trial_place_is c.args.places.now (search rules) c.args.trial c.position.result
    (position_from_yields_List (holds c.args.trial) _ _ c.position.result c.position.ensures.ran (YieldsList-from_slice c.args.places.now (cc)) (λ x b q k. search (rules, tests)))
