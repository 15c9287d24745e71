-- One visit, or none.
use Rattle.epochs.proofs.collection.Visiting.{some_none, some_one}
use Rattle.epochs.proofs.collection.visit_if_there.Goals as goal

pub returns-then-not-has_record-clause-steps : goal.returns-then-not-has_record-clause-steps
returns-then-not-has_record-clause-steps g c = some_none _ _ _ _ _

pub returns-clause-steps : goal.returns-clause-steps
returns-clause-steps g c = some_one _ _ _ _ _ _ _ c.visit_record.ensures.steps
