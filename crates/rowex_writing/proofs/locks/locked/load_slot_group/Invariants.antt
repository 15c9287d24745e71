-- So many words more are those of the lock, where those before them are.
use Rattle.rowex_writing.proofs.Common.{◌+◌, IsSeatOf, record_number}
use Rattle.rowex_writing.specs.locks.Loads.{AreRead}
use Rattle.rowex_writing.proofs.locks.locked.load_slot_group.Given as goal

abbrev pub invariant-loop-place : goal.invariant-loop-place
invariant-loop-place g l = record {
  own : IsSeatOf l.table l.seat;
  reads : (a : _) → AreRead l.table g.G.Gate.becomes a (l.fn.seat, l.fn.gate) (record_number l.fn.loads.node.rec) l.fn.words l.first → AreRead l.table g.G.Gate.becomes a (l.seat, l.gate) (record_number l.fn.loads.node.rec) l.words (l.first + l.place);
}
