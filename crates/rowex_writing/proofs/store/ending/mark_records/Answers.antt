-- The first of those that are left is marked.
use Rattle.rowex_writing.proofs.Common.{inl, refl, ◌∙◌, arith, marks_own, act_leaves, step_few}
use Rattle.rowex_writing.proofs.locks.Locks.{works_none, works_one, works_more, works_seat}
use Rattle.rowex_writing.proofs.store.Retiring.{first_due, none_due, due_less}
use Rattle.rowex_writing.proofs.store.ending.mark_records.Goals as goal

pub loop-index-init : goal.loop-index-init
loop-index-init g c = record { few = omega arith; own = c.requires.own; works = works_none c.args.table.now g.G.Gate.becomes (c.args.seat.now, c.args.gate.now); due = c.requires.due; same = (refl, refl, refl) }

pub mark-requires-clause-may : goal.mark-requires-clause-may
mark-requires-clause-may g c =
    let first = first_due c.loop-index.seat.known c.args.epoch c.args.recs.now c.loop-index.index _ c.loop-index-test.true c.loop-index.invariant.due in
    marks_own c.args.table.now.layout c.loop-index.seat.known _ _ c.args.epoch first.own (inl refl) first.epoch_is

pub loop-index-preserved : goal.loop-index-preserved
loop-index-preserved g c =
    let i = c.loop-index.invariant in
    let e = c.mark.ensures in
    let table = c.args.table.now in
    let first = first_due c.loop-index.seat.known c.args.epoch c.args.recs.now c.loop-index.index _ c.loop-index-test.true i.due in
    let one = works_one table g.G.Gate.becomes _ (c.loop-index.seat, c.loop-index.gate) (c.mark.new.seat, c.mark.new.gate) tt e in
    let left = act_leaves table.layout c.loop-index.seat.known c.mark.new.seat.known _ e.event in
    record {
      few = omega (arith, i.few, step_few table g.G.Gate.becomes _ (c.loop-index.seat, c.loop-index.gate) (c.mark.new.seat, c.mark.new.gate) e);
      own = works_seat table g.G.Gate.becomes _ _ one i.own;
      works = works_more table g.G.Gate.becomes _ _ _ i.works one;
      due = due_less table.layout c.loop-index.seat.known c.mark.new.seat.known c.args.epoch _ _ e.event first;
      same = (left.locks tt ∙ i.same.0, left.anchor tt ∙ i.same.1, left.front tt ∙ i.same.2);
    }

pub returns-clause-marked : goal.returns-clause-marked
returns-clause-marked g c = none_due c.loop-index.seat.known c.args.epoch c.args.recs.now c.loop-index.index (omega (arith, c.loop-index-test.false)) c.loop-index.invariant.due
