-- The parts of a round make the whole.
use Rattle.epochs.proofs.Rounds.{round_of}
use Rattle.epochs.proofs.collection.collect_round.Goals as goal

pub returns-clause-round : goal.returns-clause-round
returns-clause-round g c = round_of _ _ _ _ _ _ _ _ c.begin_round-bound.ensures.steps c.begin_round-bound.ensures.bound c.visit_records.ensures.steps c.visit_records.ensures.same.1
