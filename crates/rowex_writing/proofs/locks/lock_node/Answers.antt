-- A node that the pass may lock; found live, it is.
use Rattle.rowex_writing.proofs.Common.{Lock, NodeTarget, step_few}
use Rattle.rowex_writing.proofs.locks.Locks.{works_one, node_locked, node_met, node_same, is_live, is_not_live}
use Rattle.rowex_writing.proofs.locks.Others.{node_blocked}
use Rattle.rowex_writing.proofs.locks.lock_node.Goals as goal

pub returns-clause-tries : goal.returns-clause-tries
returns-clause-tries g c =
    works_one c.args.table.now g.G.Gate.becomes (Lock (NodeTarget c.args.number) c.lock-found.result) (c.args.seat.now, c.args.gate.now) (c.lock-found.new.seat, c.lock-found.new.gate) tt c.lock-found.ensures

pub returns-clause-locked : goal.returns-clause-locked
returns-clause-locked g c t =
    node_locked c.args.table.now.layout c.args.seat.now.known c.lock-found.new.seat.known c.args.number c.lock-found.result c.lock-found.ensures.event (is_live c.lock-found.result c.pack_state.result c.pack_state.ensures t)

pub returns-clause-same : goal.returns-clause-same
returns-clause-same g c f =
    node_same c.args.table.now.layout c.args.seat.now.known c.lock-found.new.seat.known c.args.number c.lock-found.result c.lock-found.ensures.event (is_not_live c.lock-found.result c.pack_state.result c.pack_state.ensures f)

pub returns-clause-refused : goal.returns-clause-refused
returns-clause-refused g c f h =
    let other = is_not_live c.lock-found.result c.pack_state.result c.pack_state.ensures f in (
      (node_met c.args.table.now.layout c.args.seat.now.known c.lock-found.new.seat.known c.args.number h.since h.height c.lock-found.result h.pinned h.led h.own h.free h.quiet c.lock-found.ensures.event other).0,
      node_blocked c.args.table.now g.G.Gate.becomes (c.args.seat.now, c.args.gate.now) (c.lock-found.new.seat, c.lock-found.new.gate) c.args.number h.since h.height c.lock-found.result h.pinned h.led h.own h.free h.quiet c.lock-found.ensures other,
    )

pub returns-clause-few : goal.returns-clause-few
returns-clause-few g c =
    step_few c.args.table.now g.G.Gate.becomes (Lock (NodeTarget c.args.number) c.lock-found.result) (c.args.seat.now, c.args.gate.now) (c.lock-found.new.seat, c.lock-found.new.gate) c.lock-found.ensures
