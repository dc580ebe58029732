-- `kernel::kernel_accepts`: the theorem of proofs/Accepted. Assumes nothing.
use Rattle.kernel.proofs.Accepted.{kernel-accepts}
use Rattle.kernel.proofs.kernel_accepts.Goals as goal

pub returns : goal.returns
returns c = kernel-accepts
