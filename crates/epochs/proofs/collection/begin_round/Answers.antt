-- Its two parts.
use Rattle.epochs.proofs.collection.begin_round.Goals as goal

pub returns-clause-steps : goal.returns-clause-steps
returns-clause-steps g c = (_, c.advance_epoch.ensures.steps, c.find_bound.ensures.steps)
