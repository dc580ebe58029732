use mathlib.Core.Path.{◌≡◌}
use Rattle.std.specs.Prelude.{None}
use Rattle.arith.specs.Lists.{filled}
use Rattle.param_mapping.specs.Mapping.{mapped_of}
use Rattle.param_mapping.proofs.matching.FirstRow.mapped.Given as goal

abbrev pub invariant-loop-j : goal.invariant-loop-j
invariant-loop-j l = l.out ≡ filled None 20 (mapped_of l.self.slots l.dims.list l.j l.self.words.now)
