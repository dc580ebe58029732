-- Document 01's kind and value words of a value: "A value is a float, an integer or a choice index". Definitions only.
use Rattle.std.specs.Prelude.{ℕ}
use Rattle.std.specs.Float.{binary64}
use Rattle.std.specs.Float.Ieee.{to_bits}
use Rattle.std.specs.Int.{w64, cast_unsigned}
use Rattle.distribution.specs.declared.ParamValue.{ParamValue}

abbrev pub kind_of : ParamValue → ℕ
kind_of (ParamValue.Float x) = 1
kind_of (ParamValue.Int z) = 2
kind_of (ParamValue.Categorical i) = 3

abbrev pub word_of : ParamValue → ℕ
word_of (ParamValue.Float x) = to_bits binary64 x
word_of (ParamValue.Int z) = cast_unsigned w64 z
word_of (ParamValue.Categorical i) = i
