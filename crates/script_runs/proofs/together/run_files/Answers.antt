-- Why `run_files` meets its contract.
use Rattle.script_runs.proofs.together.run_files.Goals as goal

pub returns : goal.returns
returns g c = c.scoped.ensures.1
