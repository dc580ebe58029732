-- `param_mapping::matching::FirstRow::first_entry` meets its contract: before each turn the best is the first entry of the slots passed. Assumes nothing.
use Prim.Native.Nat.{◌+◌, ◌*◌}
use mathlib.Core.Path.{refl, sym}
use native.Mathlib.Numerals.{add-one}
use lib.ListN.{length}
use Rattle.history_rows.proofs.Parts.{part}
use Rattle.param_mapping.specs.Mapping.{first_entry, entries_of, matches_of}
use Rattle.param_mapping.proofs.Least.{entries-better}
use Rattle.param_mapping.proofs.matching.FirstRow.first_entry.Goals as goal

pub loop-s-init : goal.loop-s-init
unfolding entries_of first_entry
loop-s-init c = refl

pub loop-s-preserved : goal.loop-s-preserved
loop-s-preserved c =
    let a = c.args in
    rw (add-one, entries-better (matches_of a.before.now (length a.before.now) a.d) a.self.now.words.now c.loop-s.s, sym c.loop-s.invariant, sym (part 8 a.self.now.words.now (3 + 8 * c.loop-s.s))) c.better-best.ensures
