-- exp is never out of its domain in the kernel: its argument is a NaN or not above 0. A statement.
use Rattle.std.specs.Prelude.{◌≡◌, List, length, Float, Ok}
use Rattle.arith.specs.Outcome.{value_of}
use Rattle.kernel.specs.Matern.{matern52_of}

-- every three lists of one length and every signal variance have a value
abbrev pub KernelAccepts : Type 0
KernelAccepts = (x1 x2 l : List Float) (s : Float) → length x1 ≡ length x2 → length x1 ≡ length l → matern52_of x1 x2 l s ≡ Ok (value_of (matern52_of x1 x2 l s))
