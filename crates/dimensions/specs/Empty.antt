-- What is written where no value is stored. A definition only.
use Rattle.std.specs.Float.{binary64}
use Rattle.std.specs.Float.Ieee.{of_bits}
use Rattle.distribution.specs.declared.ParamValue.{ParamValue}

-- the empty value; a taken place may hold it too, as the value of a float's dimension and past the last dimension
abbrev pub empty_value : ParamValue
empty_value = ParamValue.Float (of_bits binary64 0)
