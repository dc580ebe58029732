-- `search::eights::kept` meets its contract, by whether the point is kept. Assumes nothing.
use mathlib.Core.Path.{◌≡◌, ap}
use mathlib.Core.Bool.{true, false}
use lib.Ieee.{lt}
use Rattle.search.specs.declared.Candidate.{Candidate}
use Rattle.search.proofs.eights.kept.Goals as goal

pub returns-then-ei-s : goal.returns-then-ei-s
returns-then-ei-s c =
    let g = c.args in
    let t : lt g.s.best_ei g.ei ≡ true = c.if-ei-s.true in
    rw t (ap (λ (x : Candidate). record { word = g.s.word; best_ei = g.ei; best_x = x.x }) c.draw-drawn.ensures)

pub returns : goal.returns
returns c =
    let g = c.args in
    let t : lt g.s.best_ei g.ei ≡ false = c.if-ei-s.false in
    rw t
