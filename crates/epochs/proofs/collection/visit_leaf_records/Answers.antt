-- One class more.
use Rattle.epochs.proofs.Common.{rules, arith, ap, ◌∙◌, ◌-◌, sym}
use Rattle.epochs.specs.Rounds.{count_of_kind}
use Rattle.epochs.proofs.collection.Visiting.{class_sized, count_is, visits_class}
use Rattle.epochs.proofs.collection.visit_leaf_records.Goals as goal

pub visit_class-tally-requires-clause-class : goal.visit_class-tally-requires-clause-class
visit_class-tally-requires-clause-class g c = λ q low few.
    class_sized c.args.table.now.layout c.loop-first.first q c.class_at-class.result.count c.count_committed.result (rw c.layout-layout.ensures at c.class_at-class.ensures.count)
    (let here = c.count_committed.ensures in omega (arith, here)) low few

pub loop-first-preserved : goal.loop-first-preserved
loop-first-preserved g c =
    let kind = rw c.layout-layout.ensures at c.class_at-class.ensures.kind in
    let count = rw c.layout-layout.ensures at c.class_at-class.ensures.count in
    let here = c.count_committed.ensures in
    let u = count_is c.args.uncommitted.now c.class_at-class.result.kind c.class_at-class.ensures.some.0 in
    record {
      same = search rules;
      low = rw c.layout-layout.ensures at c.class_at-class.ensures.some.2;
      few = (let few = c.visit_class-tally.ensures.few in omega (arith, few, here));
      steps = visits_class _ _ (count_of_kind c.args.uncommitted.now) _ _ _ _ _ _ _ _ _ _ kind count (here ∙ ap (λ n. c.class_at-class.result.count - n) (sym u)) c.loop-first.invariant.steps
          (c.visit_class-tally.ensures.steps (count_of_kind c.args.uncommitted.now));
    }
