-- "`expected_improvement` accepts every float and is never NaN." A statement.
use Rattle.std.specs.Prelude.{◌≡◌, false, Float, Ok}
use Rattle.arith.specs.Bounds.{real, Sign}
use Rattle.arith.specs.Outcome.{value_of}
use Rattle.acquisition.specs.Improvement.{expected_improvement_of}

-- every three floats have an improvement, which is no NaN and not below 0; so no exp in it is out of its domain
abbrev pub ImprovementAccepts : Type 0
ImprovementAccepts = (mean std best : Float)
    → (expected_improvement_of mean std best ≡ Ok (value_of (expected_improvement_of mean std best)))
    × real (value_of (expected_improvement_of mean std best))
    × Sign false (value_of (expected_improvement_of mean std best))
