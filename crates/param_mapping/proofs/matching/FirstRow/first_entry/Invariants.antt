use mathlib.Core.Path.{◌≡◌}
use lib.ListN.{length}
use Rattle.param_mapping.specs.Mapping.{first_entry, entries_of, matches_of}
use Rattle.param_mapping.proofs.matching.FirstRow.first_entry.Given as goal

abbrev pub invariant-loop-s : goal.invariant-loop-s
invariant-loop-s l = l.best ≡ first_entry (matches_of l.before (length l.before) l.d) (entries_of l.self.words.now l.s)
