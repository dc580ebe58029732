-- Before each turn s is the start advanced by eight candidates a turn.
use Prim.Native.Nat.{◌*◌}
use mathlib.Core.Path.{◌≡◌}
use Rattle.rng_util.specs.Generator.{Nonzero}
use Rattle.search.specs.Lent.{model_of}
use Rattle.search.specs.Search.{advance_of}
use Rattle.search.proofs.searching.advance.Given as goal

abbrev pub invariant-loop : goal.invariant-loop
invariant-loop l = (l.s ≡ advance_of (model_of l.m) (l.counter * 8) l.initial.s) × Nonzero l.s.word
