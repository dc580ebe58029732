-- `gp_model::kernels::similarity` meets its contract: two points of one length have a kernel. Assumes nothing.
use Rattle.std.specs.Prelude.{Ok}
use mathlib.Core.Path.{◌≡◌, ◌∙◌}
use Rattle.gp_model.specs.Kernels.{similarity_of}
use Rattle.gp_model.proofs.Similar.{similar}
use Rattle.gp_model.proofs.kernels.similarity.Goals as goal
use Rattle.gp_model.proofs.kernels.similarity.Goals.{After-matern52}

known : (c : After-matern52) → c.matern52.result ≡ Ok (similarity_of c.args.x1.now c.args.x2.now c.args.lengthscales.now)
known c = c.matern52.ensures ∙ similar _ _ _ c.requires.0 c.requires.1

pub unwrap-requires : goal.unwrap-requires
unwrap-requires c = rw (known (goal.at.unwrap-requires c).After-matern52)

pub returns : goal.returns
returns c = cc (known (goal.at.returns c).After-matern52)
