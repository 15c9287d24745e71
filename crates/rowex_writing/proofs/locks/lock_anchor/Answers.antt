-- The anchor, found live, is locked.
use Rattle.rowex_writing.proofs.Common.{Lock, Anchor, version_of, step_few}
use Rattle.rowex_writing.proofs.locks.Locks.{works_one, anchor_locked, anchor_met, is_live, is_not_live}
use Rattle.rowex_writing.proofs.locks.Others.{anchor_blocked}
use Rattle.rowex_writing.proofs.locks.lock_anchor.Goals as goal

pub returns-clause-tries : goal.returns-clause-tries
returns-clause-tries g c =
    works_one c.args.table.now g.G.Gate.becomes (Lock Anchor c.lock-found.result) (c.args.seat.now, c.args.gate.now) (c.lock-found.new.seat, c.lock-found.new.gate) tt c.lock-found.ensures

pub returns-clause-locked : goal.returns-clause-locked
returns-clause-locked g c t =
    anchor_locked c.args.table.now.layout c.args.seat.now.known c.lock-found.new.seat.known c.lock-found.result c.lock-found.ensures.event (is_live c.lock-found.result c.pack_state.result c.pack_state.ensures t)

pub returns-clause-refused : goal.returns-clause-refused
returns-clause-refused g c f =
    anchor_met c.args.table.now.layout c.args.seat.now.known c.lock-found.new.seat.known c.lock-found.result c.requires.free c.lock-found.ensures.event (is_not_live c.lock-found.result c.pack_state.result c.pack_state.ensures f)

pub returns-clause-met : goal.returns-clause-met
returns-clause-met g c f =
    anchor_blocked c.args.table.now g.G.Gate.becomes (c.args.seat.now, c.args.gate.now) (c.lock-found.new.seat, c.lock-found.new.gate) c.lock-found.result (version_of c.args.seat.now.known.pin) c.requires.free c.lock-found.ensures (is_not_live c.lock-found.result c.pack_state.result c.pack_state.ensures f)

pub returns-clause-few : goal.returns-clause-few
returns-clause-few g c =
    step_few c.args.table.now g.G.Gate.becomes (Lock Anchor c.lock-found.result) (c.args.seat.now, c.args.gate.now) (c.lock-found.new.seat, c.lock-found.new.gate) c.lock-found.ensures
