-- What a sampler that is well-formed has. Assumes nothing.
use Prim.Native.Nat.{◌≤◌}
use mathlib.Core.Path.{◌≡◌}
use mathlib.Core.Bool.{true}
use lib.Dec.{T}
use Rattle.arith.proofs.Tests.{taken}
use Rattle.distribution.proofs.Facts.{parts}
use Rattle.dimensions.specs.Dimensions.{dimensions_ok}
use Rattle.dimensions.proofs.Ok.{dimensions-ok}
use Rattle.sampler_state.specs.declared.Sampler.{Sampler}
use Rattle.sampler_state.specs.State.{sampler_ok}

pub dimensions_few : (s : Sampler) → sampler_ok s ≡ true → s.dimensions.count ≤ 20
unfolding sampler_ok
dimensions_few s e =
    let t = taken e in
    let d : T (dimensions_ok s.dimensions.list s.dimensions.count) = search parts depth 9 in
    (dimensions-ok s.dimensions.list s.dimensions.count d).0
