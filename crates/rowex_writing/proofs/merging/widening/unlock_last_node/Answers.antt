-- The first lock in the list of locks goes.
use Rattle.rowex_writing.proofs.Common.{Unlock, NodeTarget, act_leaves, step_few}
use Rattle.rowex_writing.proofs.merging.widening.Widening.{last_may, last_unlocked}
use Rattle.rowex_writing.proofs.locks.Locks.{works_one}
use Rattle.rowex_writing.proofs.merging.widening.unlock_last_node.Goals as goal

pub unlock-requires-clause-may : goal.unlock-requires-clause-may
unlock-requires-clause-may g c = let (held, last) = c.requires.last in last_may c.args.table.now.layout c.args.seat.now.known c.args.number held last

pub returns-clause-works : goal.returns-clause-works
returns-clause-works g c = works_one c.args.table.now g.G.Gate.becomes (Unlock (NodeTarget c.args.number)) (c.args.seat.now, c.args.gate.now) (c.unlock.new.seat, c.unlock.new.gate) tt c.unlock.ensures

pub returns-clause-less : goal.returns-clause-less
returns-clause-less g c = λ held last. last_unlocked c.args.table.now.layout c.args.seat.now.known c.unlock.new.seat.known c.args.number held last c.unlock.ensures.event

pub returns-clause-same : goal.returns-clause-same
returns-clause-same g c =
    let left = act_leaves c.args.table.now.layout c.args.seat.now.known c.unlock.new.seat.known (Unlock (NodeTarget c.args.number)) c.unlock.ensures.event in (left.anchor tt, left.own tt)

pub returns-clause-few : goal.returns-clause-few
returns-clause-few g c = step_few c.args.table.now g.G.Gate.becomes (Unlock (NodeTarget c.args.number)) (c.args.seat.now, c.args.gate.now) (c.unlock.new.seat, c.unlock.new.gate) c.unlock.ensures
