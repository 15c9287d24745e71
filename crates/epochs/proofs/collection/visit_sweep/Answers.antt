-- One visit more, or none for a number that the table lacks.
use Rattle.std.proofs.Common.{rules, arith}
use Rattle.epochs.proofs.collection.Visiting.{some_append, some_none, some_one}
use Rattle.epochs.proofs.collection.visit_sweep.Goals as goal

pub loop-visit-init : goal.loop-visit-init
loop-visit-init g c = record { same = search rules; steps = some_none _ _ _ _ _ }

pub loop-visit-preserved-then-not-has_record : goal.loop-visit-preserved-then-not-has_record
loop-visit-preserved-then-not-has_record g c = record {
  same = c.loop-visit.invariant.same;
  steps = some_append _ _ _ _ 0 _ _ _ _ c.loop-visit.invariant.steps (some_none _ _ _ 0 _) (omega arith);
}

pub loop-visit-preserved : goal.loop-visit-preserved
loop-visit-preserved g c = record {
  same = search rules;
  steps = some_append _ _ _ _ 1 _ _ _ _ c.loop-visit.invariant.steps (some_one _ _ _ _ _ _ _ (rw c.locate.ensures.rec at c.visit_record-seen.ensures.steps)) (omega arith);
}

pub returns-in_default-clause-steps : goal.returns-in_default-clause-steps
returns-in_default-clause-steps g c = some_append _ _ _ _ 0 _ _ _ _ c.loop-visit.invariant.steps (some_none _ _ _ 0 _) (omega arith)

pub returns-clause-steps : goal.returns-clause-steps
returns-clause-steps g c = some_append _ _ _ _ 0 _ _ _ _ c.loop-visit.invariant.steps (some_none _ _ _ 0 _) (omega arith)
