-- One record more, and then those that are not committed.
use Rattle.epochs.proofs.Common.{rules, arith, ap, subst, ◌+◌, ◌-◌, ◌≡◌, a_node, Layout}
use Rattle.epochs.specs.Rounds.{VisitsFirst, count_of_kind, is_given}
use Rattle.epochs.proofs.collection.Visiting.{count_is, one_most, passes_on, visits_more}
use Rattle.epochs.proofs.collection.visit_node_records.Goals as goal

pub loop-number-preserved : goal.loop-number-preserved
loop-number-preserved g c =
    let count = count_is c.args.uncommitted.now 0 (omega arith) in
    let same = ap (λ (l : Layout). l.nodes) c.layout.ensures in
    let end = c.count_committed-end.ensures in
    let low = c.loop-number-test.true in
    record {
      same = search rules;
      few = omega (arith, c.count_visit-tally.ensures.given, one_most (is_given c.visit_record-seen.result));
      steps = visits_more _ _ (count_of_kind c.args.uncommitted.now) _ a_node _ _ _ _ _ _ _ c.loop-number.invariant.steps (omega (arith, count, same, end, low)) (rw c.locate-node.ensures.rec at c.visit_record-seen.ensures.steps)
          c.count_visit-tally.ensures.given;
    }

pub returns-clause-steps : goal.returns-clause-steps
returns-clause-steps g c =
    let count = count_is c.args.uncommitted.now 0 (omega arith) in
    let same = ap (λ (l : Layout). l.nodes) c.layout.ensures in
    let end = c.count_committed-end.ensures in
    let high = c.loop-number-test.false in
    let upto = c.loop-number.auto.number-end in
    let n = c.loop-number.number in
    let nodes = c.args.table.now.layout.nodes in
    let all : n + (nodes - n) ≡ nodes = omega (arith, same, end, upto) in
    subst (λ m. VisitsFirst c.args.table.now g.G.Gate.becomes (count_of_kind c.args.uncommitted.now) c.args.bound a_node m c.loop-number.tally.given (c.args.seat.now, c.args.gate.now) (c.loop-number.seat, c.loop-number.gate)) all
    (passes_on _ _ (count_of_kind c.args.uncommitted.now) _ a_node n (nodes - n) _ _ _ c.loop-number.invariant.steps (λ q low few. omega (arith, count, same, end, high, low)))
