use Rattle.wm_sequential.proofs.OneMemory.{sequential-runs-read-one-memory}
use Rattle.wm_sequential.proofs.law.sequential_runs_read_one_memory.Goals as goal

pub returns : goal.returns
returns c = sequential-runs-read-one-memory
