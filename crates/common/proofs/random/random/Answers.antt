-- `common::random::random` meets its contract, by the kind. Assumes nothing.
use mathlib.Core.Path.{subst}
use lib.Dec.{T}
use Rattle.distribution.specs.Shape.{shape_of}
use Rattle.distribution.specs.declared.Distribution.{Distribution}
use Rattle.distribution.proofs.Facts.{categorical-rules}
use Rattle.common.proofs.random.random.Goals as goal

pub int_random-requires : goal.int_random-requires
unfolding shape_of
int_random-requires c = subst (λ (d : Distribution). T (shape_of d)) c.in-Int.is c.requires

pub categorical_random-requires : goal.categorical_random-requires
unfolding shape_of
categorical_random-requires c = categorical-rules c.in-Categorical.c (subst (λ (d : Distribution). T (shape_of d)) c.in-Categorical.is c.requires)
