-- `proposal::points::unit_point` meets its contract: the draw is answered. Assumes nothing.
use mathlib.Core.Path.{◌≡◌, refl, ◌∙◌}
use Rattle.search.specs.Search.{draw_of}
use Rattle.proposal.proofs.Draws.{drawn-point}
use Rattle.proposal.proofs.points.unit_point.Goals as goal

pub unwrap-next-requires : goal.unwrap-next-requires
unwrap-next-requires c = rw (c.draw_point.ensures ∙ drawn-point c.args.d c.args.word c.requires.0 c.requires.1) refl

pub returns : goal.returns
returns c =
    let drawn = drawn-point c.args.d c.args.word c.requires.0 c.requires.1 in
    let e : c.unwrap-next.result ≡ draw_of c.args.d c.args.word = cc in
    rw e
