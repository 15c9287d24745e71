-- Two steps.
use Rattle.epochs.proofs.Runs.{does_two}
use Rattle.epochs.proofs.pinning.pin.Goals as goal

pub returns-clause-steps : goal.returns-clause-steps
returns-clause-steps g c = (c.load_epoch-epoch.result, does_two _ _ _ _ _ _ _ tt tt c.load_epoch-epoch.ensures c.set_pin.ensures)
