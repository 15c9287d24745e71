-- The parts of a small round make the whole: its begin, the visits of the list, and those of the sweep.
use Rattle.std.proofs.Common.{arith, ◌∙◌}
use Rattle.epochs.proofs.Rounds.{small_round_of}
use Rattle.epochs.proofs.collection.Visiting.{some_append}
use Rattle.epochs.proofs.collection.collect_small_round.Goals as goal

pub returns-clause-round : goal.returns-clause-round
returns-clause-round g c =
    let listed = c.visit_limbo-visited.ensures in
    small_round_of _ _ _ _ _ _ _ c.begin_round-bound.ensures.steps c.begin_round-bound.ensures.bound
    (some_append _ _ _ _ _ _ _ _ _ listed.steps c.visit_sweep.ensures.steps (omega (arith, listed.few, c.min-left.ensures)))
    (c.visit_sweep.ensures.same.1 ∙ listed.same.1)
