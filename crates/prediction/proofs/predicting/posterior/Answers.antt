-- `prediction::predicting::posterior` meets its contract. Assumes nothing.
use mathlib.Core.Path.{refl, ◌∙◌}
use native.Mathlib.Omega.{arith}
use lib.ListN.{take}
use lib.Ieee.{of_bits, of_int}
use Rattle.arith.proofs.Lists.{grown-padded-take}
use Rattle.factor.proofs.Back.{solves, solved}
use Rattle.gp_model.specs.Kernels.{row_of, similarity_of}
use Rattle.prediction.specs.Predict.{posterior_mean_of, posterior_std_of}
use Rattle.prediction.proofs.predicting.posterior.Goals as goal

pub unwrap-v-requires : goal.unwrap-v-requires
unwrap-v-requires c = rw (c.solve.ensures ∙ solves _ _ _ (omega arith)) refl

pub returns : goal.returns
unfolding posterior_mean_of posterior_std_of of_bits of_int
returns c =
    let m = c.args.m.now in
    let v = solved m.cholesky c.kernel_vector-k.result m.n c.solve.result c.unwrap-v.result (omega arith) c.solve.ensures c.unwrap-v.ensures in
    rw (c.sqrt-std.ensures, c.positive_part-held.ensures, c.dot-explained.ensures, v, c.dot-mean.ensures, c.kernel_vector-k.ensures, c.requires.2, grown-padded-take 100 (λ xs i. similarity_of c.args.p.now (row_of m.x_train m.d i) (take m.d m.lengthscales)) m.n)
