-- Each record behind the end is committed, and claimed or missed.
use Rattle.rowex_writing.proofs.Common.{◌∙◌, ap, refl, sym, subst, arith, Layout, SeatView}
use Rattle.rowex_writing.specs.build.Walks.{IsCommittedWalk}
use Rattle.rowex_writing.proofs.locks.Going.{seat_of}
use Rattle.rowex_writing.proofs.build.Passing.{claimed_few, claimed_goes, claimed_holds, claimed_walk, missed_one, passed_more, passed_none}
use Rattle.rowex_writing.proofs.build.hints.claim_from_end.Goals as goal

pub loop-walk-init : goal.loop-walk-init
loop-walk-init g c = record {
  passed = passed_none c.args.table.now g.G.Gate.becomes c.args.hint.now.next c.args.walk.now (c.args.seat.now, c.args.gate.now);
  same = refl;
  all = ap (λ (z : Layout). z.nodes) c.layout-nodes.ensures;
}

pub commit-requires-clause-own : goal.commit-requires-clause-own
commit-requires-clause-own g c = seat_of c.args.table.now g.G.Gate.becomes (c.args.seat.now, c.args.gate.now) (c.loop-walk.seat, c.loop-walk.gate) c.loop-walk.invariant.passed.goes c.requires.own

pub claim_by_number-requires-clause-own : goal.claim_by_number-requires-clause-own
claim_by_number-requires-clause-own g c =
    ap (λ (z : SeatView). z.table) c.commit.ensures.bounds.1 ∙ seat_of c.args.table.now g.G.Gate.becomes (c.args.seat.now, c.args.gate.now) (c.loop-walk.seat, c.loop-walk.gate) c.loop-walk.invariant.passed.goes c.requires.own

pub returns-then-claim_by_number-clause-goes : goal.returns-then-claim_by_number-clause-goes
returns-then-claim_by_number-clause-goes g c =
    claimed_goes c.args.table.now g.G.Gate.becomes c.args.hint.now.next c.args.walk.now (c.args.seat.now, c.args.gate.now) c.loop-walk.walk c.loop-walk.seat c.commit.new.seat c.loop-walk.gate
    (c.claim_by_number.new.seat, c.claim_by_number.new.gate) c.loop-walk.invariant.passed c.commit.ensures.bounds c.commit.ensures.committed (omega (arith, c.if-walk-gt0.true)) (c.claim_by_number.ensures.claimed c.if-claim_by_number.true).1

pub returns-then-claim_by_number-clause-claims : goal.returns-then-claim_by_number-clause-claims
returns-then-claim_by_number-clause-claims g c = (
  omega (arith, c.loop-walk-test.true, c.loop-walk.invariant.all),
  claimed_holds c.args.table.now g.G.Gate.becomes c.args.hint.now.next c.args.walk.now (c.args.seat.now, c.args.gate.now) c.loop-walk.walk c.loop-walk.seat c.commit.new.seat c.loop-walk.gate
      (c.claim_by_number.new.seat, c.claim_by_number.new.gate) c.loop-walk.invariant.passed c.commit.ensures.bounds c.commit.ensures.committed (omega (arith, c.if-walk-gt0.true)) (c.claim_by_number.ensures.claimed c.if-claim_by_number.true).1,
)

pub returns-then-claim_by_number-clause-walk : goal.returns-then-claim_by_number-clause-walk
returns-then-claim_by_number-clause-walk g c = λ first made alone none w.
    claimed_walk c.args.table.now g.G.Gate.becomes c.args.hint.now.next c.args.walk.now (c.args.seat.now, c.args.gate.now) c.loop-walk.walk c.loop-walk.seat c.commit.new.seat c.loop-walk.gate
    (c.claim_by_number.new.seat, c.claim_by_number.new.gate) c.loop-walk.invariant.passed c.commit.ensures.bounds c.commit.ensures.committed (omega (arith, c.if-walk-gt0.true)) (c.claim_by_number.ensures.claimed c.if-claim_by_number.true).1 first made _ alone none w

pub returns-then-claim_by_number-clause-commits : goal.returns-then-claim_by_number-clause-commits
returns-then-claim_by_number-clause-commits g c = c.loop-walk.invariant.passed.commits

pub returns-then-claim_by_number-clause-few : goal.returns-then-claim_by_number-clause-few
returns-then-claim_by_number-clause-few g c =
    claimed_few c.args.table.now g.G.Gate.becomes c.args.hint.now.next c.args.walk.now (c.args.seat.now, c.args.gate.now) c.loop-walk.walk c.loop-walk.seat c.commit.new.seat c.loop-walk.gate
    (c.claim_by_number.new.seat, c.claim_by_number.new.gate) c.loop-walk.invariant.passed c.commit.ensures.bounds c.commit.ensures.committed (omega (arith, c.if-walk-gt0.true)) (c.claim_by_number.ensures.claimed c.if-claim_by_number.true).1

pub loop-walk-preserved : goal.loop-walk-preserved
loop-walk-preserved g c = record {
  passed = passed_more c.args.table.now g.G.Gate.becomes c.args.hint.now.next c.args.walk.now (c.args.seat.now, c.args.gate.now) c.loop-walk.walk c.loop-walk.seat c.commit.new.seat c.loop-walk.gate
      (c.claim_by_number.new.seat, c.claim_by_number.new.gate) c.loop-walk.invariant.passed c.commit.ensures.bounds c.commit.ensures.committed (omega (arith, c.if-walk-gt0.true))
      (missed_one c.args.table.now g.G.Gate.becomes c.loop-walk.walk.end (c.commit.new.seat, c.loop-walk.gate) (c.claim_by_number.new.seat, c.claim_by_number.new.gate) (c.claim_by_number.ensures.missed c.if-claim_by_number.false));
  same = c.loop-walk.invariant.same;
  all = c.loop-walk.invariant.all;
}

pub returns-else-walk-gt0-clause-goes : goal.returns-else-walk-gt0-clause-goes
returns-else-walk-gt0-clause-goes g c = c.loop-walk.invariant.passed.goes

pub returns-else-walk-gt0-clause-claims : goal.returns-else-walk-gt0-clause-claims
returns-else-walk-gt0-clause-claims g c = c.loop-walk.invariant.passed.own

pub returns-else-walk-gt0-clause-walk : goal.returns-else-walk-gt0-clause-walk
returns-else-walk-gt0-clause-walk g c = λ first made alone none w.
    let (left, walk) = c.loop-walk.invariant.passed.walked first made alone none w in
    let rest = walk.rest in
    (left, subst (λ n. IsCommittedWalk c.args.table.now.layout first c.loop-walk.seat made n c.loop-walk.walk) (sym c.loop-walk.invariant.same) walk, omega (arith, rest, c.if-walk-gt0.false))

pub returns-else-walk-gt0-clause-commits : goal.returns-else-walk-gt0-clause-commits
returns-else-walk-gt0-clause-commits g c = c.loop-walk.invariant.passed.commits

pub returns-else-walk-gt0-clause-few : goal.returns-else-walk-gt0-clause-few
returns-else-walk-gt0-clause-few g c = c.loop-walk.invariant.passed.few

pub returns-else-walk-gt0-clause-tried : goal.returns-else-walk-gt0-clause-tried
returns-else-walk-gt0-clause-tried g c = λ all one none is n from low. c.loop-walk.invariant.passed.taken one none n from (let still = c.loop-walk.invariant.passed.whole all in omega (arith, still, low, c.if-walk-gt0.false))

pub returns-after-loop-walk-clause-goes : goal.returns-after-loop-walk-clause-goes
returns-after-loop-walk-clause-goes g c = c.loop-walk.invariant.passed.goes

pub returns-after-loop-walk-clause-claims : goal.returns-after-loop-walk-clause-claims
returns-after-loop-walk-clause-claims g c = c.loop-walk.invariant.passed.own

pub returns-after-loop-walk-clause-walk : goal.returns-after-loop-walk-clause-walk
returns-after-loop-walk-clause-walk g c = λ first made alone none w.
    let (left, walk) = c.loop-walk.invariant.passed.walked first made alone none w in
    let rest = walk.rest in
    (left, subst (λ n. IsCommittedWalk c.args.table.now.layout first c.loop-walk.seat made n c.loop-walk.walk) (sym c.loop-walk.invariant.same) walk, omega (arith, rest, c.loop-walk-test.false, c.loop-walk.invariant.all))

pub returns-after-loop-walk-clause-commits : goal.returns-after-loop-walk-clause-commits
returns-after-loop-walk-clause-commits g c = c.loop-walk.invariant.passed.commits

pub returns-after-loop-walk-clause-few : goal.returns-after-loop-walk-clause-few
returns-after-loop-walk-clause-few g c = c.loop-walk.invariant.passed.few

pub returns-after-loop-walk-clause-tried : goal.returns-after-loop-walk-clause-tried
returns-after-loop-walk-clause-tried g c = λ all one none is n from low. c.loop-walk.invariant.passed.taken one none n from (let still = c.loop-walk.invariant.passed.whole all in omega (arith, still, low, c.loop-walk-test.false, c.loop-walk.invariant.all))
