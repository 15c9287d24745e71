-- None yet, one more, and all of them.
use Rattle.std.proofs.Common.{arith}
use Rattle.rowex_writing.proofs.build.Walks.{looked_none, looked_more, looked_all, looked_own, look_record}
use Rattle.rowex_writing.proofs.locks.Going.{seat_of}
use Rattle.rowex_writing.proofs.build.nodes.load_states.Goals as goal

pub loop-index-init : goal.loop-index-init
loop-index-init g c = looked_none c.args.table.now g.G.Gate.becomes c.args.made.now (c.args.seat.now, c.args.gate.now)

pub load_state-requires-clause-own : goal.load_state-requires-clause-own
load_state-requires-clause-own g c = seat_of c.args.table.now g.G.Gate.becomes (c.args.seat.now, c.args.gate.now) (c.loop-index.seat, c.loop-index.gate) c.loop-index.invariant.goes c.requires.building.1.seat

pub load_state-requires-clause-range : goal.load_state-requires-clause-range
load_state-requires-clause-range g c = look_record c.args.table.now c.args.seat.now c.args.made.now c.requires.building.0 c.requires.building.1 c.loop-index.index _ c.loop-index-test.true

pub loop-index-preserved : goal.loop-index-preserved
loop-index-preserved g c =
    looked_more c.args.table.now g.G.Gate.becomes c.args.made.now c.loop-index.index (c.args.seat.now, c.args.gate.now) (c.loop-index.seat, c.loop-index.gate) (c.load_state.new.seat, c.load_state.new.gate) c.loop-index-test.true
    c.requires.building.0 c.requires.building.1 c.loop-index.invariant _ c.load_state.result c.load_state.ensures

pub returns-clause-seen : goal.returns-clause-seen
returns-clause-seen g c = looked_all c.args.table.now g.G.Gate.becomes c.args.made.now c.loop-index.index (c.args.seat.now, c.args.gate.now) (c.loop-index.seat, c.loop-index.gate) (omega (arith, c.loop-index-test.false)) c.loop-index.invariant

pub returns-clause-mine : goal.returns-clause-mine
returns-clause-mine g c = looked_own c.args.table.now g.G.Gate.becomes c.args.made.now c.loop-index.index (c.args.seat.now, c.args.gate.now) (c.loop-index.seat, c.loop-index.gate) (omega (arith, c.loop-index-test.false)) c.loop-index.invariant
