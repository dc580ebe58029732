use Prim.Native.Nat.{◌-◌}
use mathlib.Core.Path.{◌≡◌}
use Rattle.propose_lines.specs.Names.{slots_names, same_bytes}
use Rattle.propose_lines.proofs.names.is_slots.Given as goal

abbrev pub invariant-loop : goal.invariant-loop
invariant-loop l = same_bytes l.rest (slots_names (l.n - l.counter)) ≡ same_bytes l.line (slots_names l.n)
