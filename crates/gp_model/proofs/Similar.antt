-- Two points of one length have a kernel. Assumes nothing.
use Rattle.std.specs.Prelude.{Ok}
use mathlib.Core.Path.{◌≡◌}
use mathlib.Core.List.{List}
use lib.Ieee.{Float, binary64, of_bits, of_int}
use lib.ListN.{length}
use Rattle.kernel.specs.Matern.{matern52_of}
use Rattle.kernel.proofs.Accepted.{kernel-accepts}
use Rattle.gp_model.specs.Kernels.{similarity_of}

-- at signal variance 1
pub similar : (x1 x2 l : List Float) → length x1 ≡ length x2 → length x1 ≡ length l → matern52_of x1 x2 l (of_bits binary64 0x3ff0000000000000) ≡ Ok (similarity_of x1 x2 l)
unfolding similarity_of of_bits of_int
similar x1 x2 l e f = kernel-accepts x1 x2 l _ e f
