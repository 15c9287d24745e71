-- Two steps, or at the last epoch one.
use Rattle.epochs.proofs.collection.Advancing.{advanced, stayed}
use Rattle.epochs.proofs.collection.advance_epoch.Goals as goal

pub returns-then-expected-lt-EPOCHS-clause-steps : goal.returns-then-expected-lt-EPOCHS-clause-steps
returns-then-expected-lt-EPOCHS-clause-steps g c = advanced _ _ _ _ _ _ _ c.if-expected-lt-EPOCHS.true c.load_epoch-expected.ensures c.advance.ensures

pub returns-else-expected-lt-EPOCHS-clause-steps : goal.returns-else-expected-lt-EPOCHS-clause-steps
returns-else-expected-lt-EPOCHS-clause-steps g c = stayed _ _ _ _ _ c.if-expected-lt-EPOCHS.false c.load_epoch-expected.ensures
