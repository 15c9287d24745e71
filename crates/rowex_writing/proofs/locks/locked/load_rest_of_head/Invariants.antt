-- Where the first word is here, those so far are.
use Rattle.rowex_writing.proofs.Common.{◌≡◌, get_or, head_size, kind_in, IsSeatOf, record_number}
use Rattle.rowex_writing.specs.locks.Loads.{AreRead}
use Rattle.rowex_writing.proofs.locks.locked.load_rest_of_head.Given as goal

abbrev pub invariant-loop-index : goal.invariant-loop-index
invariant-loop-index g l = record {
  own : IsSeatOf l.table l.seat;
  reads : (a : _) → AreRead l.table g.G.Gate.becomes a (l.fn.seat, l.fn.gate) (record_number l.fn.node.rec) l.fn.words 1 → AreRead l.table g.G.Gate.becomes a (l.seat, l.gate) (record_number l.fn.node.rec) l.words l.index;
}

abbrev pub invariant-loop-index-2 : goal.invariant-loop-index-2
invariant-loop-index-2 g l = (a : _) → AreRead l.table g.G.Gate.becomes a (l.fn.seat, l.fn.gate) (record_number l.fn.node.rec) l.fn.words 1 → head_size (kind_in (get_or l.fn.words 0 0)) ≡ l.size →
    AreRead l.table g.G.Gate.becomes a (l.seat, l.gate) (record_number l.fn.node.rec) l.words l.index
