-- `sampler_state::places::taken_count` meets its contract. Assumes nothing.
use Rattle.std.proofs.Common.{rules, tests, ◌∙◌}
use Rattle.std.proofs.lemmas.Iterator.{YieldsList-from_slice}
use Rattle.std.proofs.lemmas.Iterator.Consumers.{count_from_yields_List, YieldsList-from_filter}
use Rattle.std.proofs.lemmas.List.Sums.{length-filter}
use Rattle.sampler_state.specs.State.{empty_place, taken, taken_count}
use Rattle.arith.proofs.Passing.{count_places}
use Rattle.sampler_state.proofs.places.taken_count.Goals as goal

pub returns : goal.returns
unfolding taken_count
returns c =
    count_from_yields_List c.filter.result c.count.result c.count.ensures.ran (YieldsList-from_filter _ taken (YieldsList-from_slice c.args.places.now (cc)) c.filter.ensures.closure (λ x b q k. search (rules, tests)))
    ∙ length-filter taken c.args.places.now
    ∙ count_places taken c.args.places.now empty_place 32 (search rules)
