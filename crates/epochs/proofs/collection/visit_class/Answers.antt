-- One record more, and all of them.
use Rattle.epochs.proofs.Common.{rules, arith, subst, sym, ◌∙◌, ◌≡◌, a_leaf}
use Rattle.epochs.specs.Rounds.{is_given, GoesOnVisiting}
use Rattle.epochs.proofs.collection.Visiting.{next_start, one_most, visits_more}
use Rattle.epochs.proofs.collection.visit_class.Goals as goal

pub loop-number-init : goal.loop-number-init
loop-number-init g c = record {
  own = search rules;
  same = search rules;
  start = rw c.layout-layout.ensures at c.leaf-start.ensures;
  few = search rules;
  steps = λ uncommitted committed a all. all;
}

pub loop-number-preserved : goal.loop-number-preserved
loop-number-preserved g c = record {
  own = search rules;
  same = search rules;
  start =
      next_start c.args.table.now.layout c.loop-number.number c.loop-number.start c.leaf_size-size.result c.loop-number.invariant.start
      (rw c.layout-layout.ensures at c.leaf_size-size.ensures.size ∙ sym (c.requires.class c.loop-number.number c.loop-number.auto.number c.loop-number-test.true));
  few = omega (arith, c.count_visit-tally.ensures.given, one_most (is_given c.visit_record-seen.result));
  steps = λ uncommitted committed a all.
      visits_more _ _ uncommitted _ a_leaf _ _ _ _ _ _ _ (c.loop-number.invariant.steps uncommitted (λ q low few. committed q low (omega arith)) a all)
      (committed c.loop-number.number c.loop-number.auto.number (omega arith)) c.visit_record-seen.ensures.steps c.count_visit-tally.ensures.given;
}

pub returns-clause-steps : goal.returns-clause-steps
returns-clause-steps g c uncommitted committed =
    let done : c.loop-number.number ≡ c.args.numbers.end = omega arith in
    subst (λ n. GoesOnVisiting c.args.table.now g.G.Gate.becomes uncommitted c.args.bound a_leaf (c.args.numbers.start, c.args.before.given) (n, c.loop-number.tally.given) (c.args.seat.now, c.args.gate.now) (c.loop-number.seat, c.loop-number.gate)) done
    (c.loop-number.invariant.steps uncommitted (λ q low few. committed q low (omega arith)))
