-- The first of those that are left is unlocked.
use Rattle.rowex_writing.proofs.Common.{inl, refl, ◌∙◌, arith, silent, unlocks_node, unlock_gives, act_leaves, step_few}
use Rattle.rowex_writing.proofs.locks.Locks.{works_none, works_one, works_more, works_seat}
use Rattle.rowex_writing.proofs.locks.Spans.{first_locked, none_locked}
use Rattle.rowex_writing.proofs.locks.unlock_nodes.Goals as goal

pub loop-index-init : goal.loop-index-init
loop-index-init g c = record {
  few = omega arith;
  own = c.requires.own;
  works = works_none c.args.table.now g.G.Gate.becomes (c.args.seat.now, c.args.gate.now);
  locked = c.requires.locked;
  rest = (refl, refl, refl, refl, refl);
}

pub unlock-requires-clause-may : goal.unlock-requires-clause-may
unlock-requires-clause-may g c =
    let i = c.loop-index.invariant in
    let first = first_locked c.loop-index.seat.known c.args.steps.now c.loop-index.index _ c.loop-index-test.true i.locked in
    unlocks_node c.args.table.now.layout c.loop-index.seat.known _ _ first.0 (inl refl)

pub loop-index-preserved : goal.loop-index-preserved
loop-index-preserved g c =
    let i = c.loop-index.invariant in
    let e = c.unlock.ensures in
    let table = c.args.table.now in
    let first = first_locked c.loop-index.seat.known c.args.steps.now c.loop-index.index _ c.loop-index-test.true i.locked in
    let one = works_one table g.G.Gate.becomes _ (c.loop-index.seat, c.loop-index.gate) (c.unlock.new.seat, c.unlock.new.gate) tt e in
    let left = act_leaves table.layout c.loop-index.seat.known c.unlock.new.seat.known _ e.event in
    record {
      few = omega (arith, i.few, step_few table g.G.Gate.becomes _ (c.loop-index.seat, c.loop-index.gate) (c.unlock.new.seat, c.unlock.new.gate) e);
      own = works_seat table g.G.Gate.becomes _ _ one i.own;
      works = works_more table g.G.Gate.becomes _ _ _ i.works one;
      locked = (unlock_gives table.layout silent c.loop-index.seat.known c.unlock.new.seat.known _ _ e.event first.0 first.1, first.1.1);
      rest = (left.own tt ∙ i.rest.0, left.anchor tt ∙ i.rest.1, left.front tt ∙ i.rest.2, left.round tt ∙ i.rest.3, left.failed tt ∙ i.rest.4);
    }

pub returns-clause-free : goal.returns-clause-free
returns-clause-free g c = none_locked c.loop-index.seat.known c.args.steps.now c.loop-index.index (omega (arith, c.loop-index-test.false)) c.loop-index.invariant.locked
