use Rattle.std.proofs.Common.{refl}
use Rattle.exponential.specs.Exp.{reduced_of}
use Rattle.exponential.proofs.reduced.Goals as goal

pub returns : goal.returns
unfolding reduced_of
returns c = refl
