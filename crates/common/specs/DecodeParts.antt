-- What decoding asks: an x whose steps do not saturate. Definitions only.
use Rattle.std.specs.Prelude.{Float}
use Rattle.distribution.specs.declared.Distribution.{Distribution}
use Rattle.common.specs.Decode.{unscale_of}
use Rattle.common.specs.GridParts.{OutcomeFits}

abbrev pub Decodable : Float → Distribution → Type 0
Decodable x (Distribution.Float d) = Unit
Decodable x (Distribution.Int d) = OutcomeFits d (unscale_of d.log_scale x)
Decodable x (Distribution.Categorical d) = Unit
