-- `sampler_state::checking::Judge::progress_ok` meets its contract. Assumes nothing.
use Rattle.std.proofs.Common.{◌≤◌, length, rules, ◌∙◌}
use Rattle.sampler_state.proofs.Judged.{progress_zip}
use Rattle.sampler_state.proofs.checking.Judge.progress_ok.Goals as goal

pub returns-then-contains : goal.returns-then-contains
returns-then-contains c =
    let ds = c.args.self.now.dimensions.now in
    let p = c.args.place.now in
    let few = c.args.self.now.few in
    let least : 1 ≤ p.next_dim = search rules in
    let most : p.next_dim ≤ length ds = search rules in
    let enough : length ds ≤ length p.values = search rules in
    c.values_ok.ensures ∙ progress_zip ds p enough least most
