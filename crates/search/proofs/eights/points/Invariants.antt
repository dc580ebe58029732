use Prim.Native.Nat.{ℕ, ◌<◌}
use mathlib.Core.Path.{◌≡◌}
use lib.ListN.{get_or}
use Rattle.rng_util.specs.Generator.{moved_of}
use Rattle.search.specs.Eights.{points_of}
use Rattle.search.proofs.eights.points.Given as goal

abbrev pub invariant-loop-j : goal.invariant-loop-j
invariant-loop-j l = (l.out ≡ points_of l.j l.words) × ((p : ℕ) → p < 8 → get_or l.at p 0 ≡ moved_of l.j (get_or l.words p 0))
