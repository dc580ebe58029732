-- `gp_model::fitting::model` meets its contract. Assumes nothing.
use mathlib.Core.Path.{refl, sym, ◌∙◌}
use native.Mathlib.Omega.{arith}
use lib.ListN.{length}
use Rattle.arith.proofs.Lists.{grown-padded-take}
use Rattle.factor.proofs.Back.{solves, solved}
use Rattle.gp_model.specs.Statistics.{standard_of}
use Rattle.gp_model.proofs.fitting.model.Goals as goal

pub unwrap-alpha-requires : goal.unwrap-alpha-requires
unwrap-alpha-requires c = rw (c.solve.ensures ∙ solves _ _ _ (omega arith)) refl

pub returns : goal.returns
returns c =
    let a = solved c.args.cholesky c.standardized-values.result c.args.x.now.n c.solve.result c.unwrap-alpha.result (omega arith) c.solve.ensures c.unwrap-alpha.ensures in
    rw (c.copied-x_train.ensures, a, c.least-f_best.ensures, c.standardized-values.ensures, c.requires.2, sym c.requires.1, grown-padded-take 100 (λ xs i. standard_of c.args.y.now i) (length c.args.y.now))
