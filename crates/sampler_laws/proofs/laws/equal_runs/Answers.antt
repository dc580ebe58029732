-- `sampler_laws::laws::equal_runs` meets its contract, a theorem of proofs/EqualRuns. Assumes nothing.
use Rattle.sampler_laws.proofs.EqualRuns.{equal_runs}
use Rattle.sampler_laws.proofs.laws.equal_runs.Goals as goal

pub returns : goal.returns
returns c = equal_runs
