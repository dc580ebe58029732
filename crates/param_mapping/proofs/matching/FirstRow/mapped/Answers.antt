-- `param_mapping::matching::FirstRow::mapped` meets its contract: before each turn the array holds the ids of the first j dimensions. Assumes nothing.
use mathlib.Core.Path.{refl}
use native.Mathlib.Numerals.{add-one}
use native.Mathlib.Omega.{arith}
use Rattle.arith.specs.Lists.{grown}
use Rattle.param_mapping.specs.Mapping.{mapped_of}
use Rattle.param_mapping.proofs.MappedList.{mapped-take, mapped-set}
use Rattle.param_mapping.proofs.matching.FirstRow.mapped.Goals as goal

pub loop-j-init : goal.loop-j-init
unfolding mapped_of grown
loop-j-init c = refl

pub loop-j-preserved : goal.loop-j-preserved
loop-j-preserved c =
    let a = c.args in
    rw (c.first_entry.ensures, c.loop-j.invariant, mapped-take a.self.now.slots a.dims.now.list c.loop-j.j a.self.now.words.now, add-one) (mapped-set a.self.now.slots a.dims.now.list c.loop-j.j a.self.now.words.now (omega arith))
