-- One visit more, and the end of them.
use Rattle.std.proofs.Common.{rules, arith}
use Rattle.epochs.proofs.collection.Visiting.{some_append, some_none}
use Rattle.epochs.proofs.collection.visit_limbo.Goals as goal

pub loop-index-init : goal.loop-index-init
loop-index-init g c = record { same = search rules; steps = some_none _ _ _ _ _ }

pub loop-index-preserved : goal.loop-index-preserved
loop-index-preserved g c = record {
  same = search rules;
  steps = some_append _ _ _ _ 1 _ _ _ _ c.loop-index.invariant.steps c.visit_if_there-seen.ensures.steps (omega arith);
}

pub returns-then-not-take_visit-clause-steps : goal.returns-then-not-take_visit-clause-steps
returns-then-not-take_visit-clause-steps g c = some_append _ _ _ _ 1 _ _ _ _ c.loop-index.invariant.steps c.visit_if_there-seen.ensures.steps (omega arith)

pub returns-clause-steps : goal.returns-clause-steps
returns-clause-steps g c = some_append _ _ _ _ 0 _ _ _ _ c.loop-index.invariant.steps (some_none _ _ _ 0 _) (omega arith)
