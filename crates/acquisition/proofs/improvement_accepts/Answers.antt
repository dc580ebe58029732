-- `acquisition::improvement_accepts`: the theorem of proofs/Accepted. Assumes nothing.
use Rattle.acquisition.proofs.Accepted.{improvement-accepts}
use Rattle.acquisition.proofs.improvement_accepts.Goals as goal

pub returns : goal.returns
returns c = improvement-accepts
