-- The parts of a round make the whole; its beginning alone is one that is spared.
use Rattle.epochs.proofs.Rounds.{round_of, spared_of}
use Rattle.epochs.proofs.collection.collect_if_risen.Goals as goal

pub returns-then-bound-limbo-clause-spared : goal.returns-then-bound-limbo-clause-spared
returns-then-bound-limbo-clause-spared g c none = spared_of _ _ _ _ _ c.begin_round-bound.ensures.steps c.begin_round-bound.ensures.bound

pub returns-clause-round : goal.returns-clause-round
returns-clause-round g c = round_of _ _ _ _ _ _ _ _ c.begin_round-bound.ensures.steps c.begin_round-bound.ensures.bound c.visit_records.ensures.steps c.visit_records.ensures.same.1
