-- No class yet; one more in which no record is free; and one in which one is.
use Rattle.rowex_writing.proofs.Common.{◌+◌, arith, refl, ◌∙◌, a_leaf, IsAnothersTo, missed_before, more_since}
use Rattle.rowex_writing.proofs.build.Classes.{committed_on, missed_more}
use Rattle.rowex_writing.proofs.locks.Going.{goes_more, goes_none, seat_of}
use Rattle.rowex_writing.proofs.build.Building.{steps_rise}
use Rattle.rowex_writing.proofs.build.leaves.claim_leaf_between.Goals as goal

pub claim_leaf_of_class-requires-clause-own : goal.claim_leaf_of_class-requires-clause-own
claim_leaf_of_class-requires-clause-own g c = seat_of c.args.table.now g.G.Gate.becomes (c.args.seat.now, c.args.gate.now) (c.loop-first.seat, c.loop-first.gate) c.loop-first.invariant.goes c.requires.own

pub returns-in-Ok-clause-goes : goal.returns-in-Ok-clause-goes
returns-in-Ok-clause-goes g c = goes_more c.args.table.now g.G.Gate.becomes _ _ _ c.loop-first.invariant.goes c.claim_leaf_of_class.ensures.goes

pub returns-then-tried-end-clause-goes : goal.returns-then-tried-end-clause-goes
returns-then-tried-end-clause-goes g c = goes_more c.args.table.now g.G.Gate.becomes _ _ _ c.loop-first.invariant.goes c.claim_leaf_of_class.ensures.goes

pub loop-first-preserved : goal.loop-first-preserved
loop-first-preserved g c =
    let table = c.args.table.now in
    let i = c.loop-first.invariant in
    let goes = c.claim_leaf_of_class.ensures.goes in
    let rises = steps_rise table g.G.Gate.becomes goes.acts (c.loop-first.seat, c.loop-first.gate) (c.claim_leaf_of_class.new.seat, c.claim_leaf_of_class.new.gate) goes.steps in
    record {
      within = (omega (arith, i.within.0, c.class_end.ensures.upto.0, c.loop-first-test.true, c.min-end.ensures), omega (arith, c.min-end.ensures));
      goes = goes_more table g.G.Gate.becomes _ _ _ i.goes goes;
      own = c.in-Err.ensures.own ∙ i.own;
      missed = missed_more table g.G.Gate.becomes (IsAnothersTo table.layout c.args.seat.now.known) c.args.seat.now.bounds c.args.numbers.start c.loop-first.first c.in-Err.tried c.min-end.result c.args.seat.now.known.steps (c.loop-first.seat, c.loop-first.gate)
          (c.claim_leaf_of_class.new.seat, c.claim_leaf_of_class.new.gate) i.later goes i.within.0 c.in-Err.ensures.tried.0 i.missed (λ low. absurd (omega (arith, low, c.if-tried-end.false)))
          (λ q low. missed_before table.layout c.args.seat.now.known c.loop-first.seat.known c.claim_leaf_of_class.new.seat.known.failed (a_leaf (c.loop-first.first + q)) c.loop-first.seat.known.steps i.goes.stays.0.pass i.own i.goes.stays.1
          (c.in-Err.ensures.missed q low));
      count = omega (arith, i.within.0, i.count, c.claim_leaf_of_class.ensures.few, c.class_end.ensures.upto.0, c.loop-first-test.true, c.min-end.ensures);
      later = omega (arith, rises, i.later);
    }

pub returns-then-tried-end-clause-claims : goal.returns-then-tried-end-clause-claims
returns-then-tried-end-clause-claims g c =
    let table = c.args.table.now in
    let i = c.loop-first.invariant in
    let goes = c.claim_leaf_of_class.ensures.goes in (
      c.in-Err.ensures.own ∙ i.own,
      missed_more table g.G.Gate.becomes (IsAnothersTo table.layout c.args.seat.now.known) c.args.seat.now.bounds c.args.numbers.start c.loop-first.first c.in-Err.tried c.args.numbers.end c.args.seat.now.known.steps (c.loop-first.seat, c.loop-first.gate)
          (c.claim_leaf_of_class.new.seat, c.claim_leaf_of_class.new.gate) i.later goes i.within.0 c.in-Err.ensures.tried.0 i.missed
          (λ low committed. c.in-Err.ensures.tried.1 c.if-tried-end.true (committed_on table g.G.Gate.becomes (a_leaf c.in-Err.tried) (c.args.seat.now, c.args.gate.now) (c.loop-first.seat, c.loop-first.gate) i.goes committed))
          (λ q low. missed_before table.layout c.args.seat.now.known c.loop-first.seat.known c.claim_leaf_of_class.new.seat.known.failed (a_leaf (c.loop-first.first + q)) c.loop-first.seat.known.steps i.goes.stays.0.pass i.own i.goes.stays.1
          (c.in-Err.ensures.missed q low)),
    )

pub loop-first-init : goal.loop-first-init
loop-first-init g c = record {
  within = (omega arith, c.requires.range.0);
  goes = goes_none c.args.table.now g.G.Gate.becomes (c.args.seat.now, c.args.gate.now);
  own = refl;
  missed = λ q low high. absurd (omega (arith, low, high));
  count = omega arith;
  later = omega arith;
}

pub returns-in-Ok-clause-claims : goal.returns-in-Ok-clause-claims
returns-in-Ok-clause-claims g c =
    let (less, holds) = c.in-Ok.ensures.claimed in (
      omega (arith, c.loop-first.invariant.within.0),
      omega (arith, less, c.min-end.ensures),
      more_since (a_leaf (c.loop-first.first + c.in-Ok.number)) c.args.seat.now.known c.loop-first.seat.known c.claim_leaf_of_class.new.seat.known c.loop-first.invariant.own holds,
    )

pub returns-clause-claims : goal.returns-clause-claims
returns-clause-claims g c = (c.loop-first.invariant.own, λ q low high. c.loop-first.invariant.missed q low (omega (arith, high, c.loop-first-test.false)))

pub claim_leaf_of_class-requires-clause-range : goal.claim_leaf_of_class-requires-clause-range
claim_leaf_of_class-requires-clause-range g c = (omega (arith, c.class_end.ensures.upto.0, c.loop-first-test.true, c.min-end.ensures), omega (arith, c.requires.range.1, c.min-end.ensures))

pub claim_leaf_of_class-requires-clause-class : goal.claim_leaf_of_class-requires-clause-class
claim_leaf_of_class-requires-clause-class g c = λ q low below. rw c.layout-layout.ensures at (c.class_end.ensures.same q low (omega (arith, below, c.min-end.ensures)))
