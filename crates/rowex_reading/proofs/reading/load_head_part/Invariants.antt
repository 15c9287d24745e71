-- The words so far are loaded.
use Rattle.rowex_reading.proofs.Common.{◌≡◌, ◌<◌, length, a_node, record_number}
use Rattle.rowex_reading.specs.Reads.{IsReader, Reads}
use Rattle.rowex_reading.specs.Seen.{AreLoaded}
use Rattle.rowex_reading.proofs.reading.load_head_part.Given as goal

abbrev pub invariant-loop-index : goal.invariant-loop-index
invariant-loop-index g l = record {
  reader : IsReader l.table l.seat;
  long : length l.words ≡ length l.fn.words;
  reads : Reads l.table g.G.Gate.becomes 0 l.index (l.fn.seat, l.fn.gate) (l.seat, l.gate);
  loaded : AreLoaded l.fn.seat.known l.seat.known (a_node (record_number l.fn.node.rec)) l.first (λ o. o < l.index) l.words;
}
