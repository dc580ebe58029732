-- `sampler_state::places::free_place` meets its contract. Assumes nothing.
use Rattle.std.proofs.Common.{not, Option, rules, tests}
use Rattle.std.proofs.lemmas.Iterator.{YieldsList-from_slice}
use Rattle.std.proofs.lemmas.Iterator.Search.{position_from_yields_List}
use Rattle.sampler_state.specs.declared.Place.{Place}
use Rattle.sampler_state.specs.State.{taken}
use Rattle.sampler_state.proofs.Indices.{free_place_is}
use Rattle.sampler_state.proofs.places.free_place.Goals as goal

pub returns : goal.returns
returns c =
    free_place_is c.args.places.now (search rules) c.position.result
    (position_from_yields_List (λ (p : Option Place). not (taken p)) _ _ c.position.result c.position.ensures.ran (YieldsList-from_slice c.args.places.now (cc)) (λ x b q k. search (rules, tests)))
