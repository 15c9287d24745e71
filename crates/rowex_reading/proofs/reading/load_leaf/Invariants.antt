-- The words so far are loaded, and their bytes, with zeros behind them, are theirs; so are the places where all were zero.
use Rattle.rowex_reading.proofs.Common.{◌≡◌, ℕ, ◌+◌, ◌<◌, ◌≤◌, length, replicate, get_or, MAX_BYTES, LEAF_FIELDS, leaf_size, words_of_key, record_number}
use Rattle.rowex_reading.specs.Reads.{IsReader, Reads}
use Rattle.rowex_reading.proofs.reading.Leafing.{AreSoFar}
use Rattle.rowex_reading.proofs.reading.Fronting.{front}
use Rattle.rowex_reading.proofs.reading.load_leaf.Given as goal

abbrev pub invariant-loop-index : goal.invariant-loop-index
invariant-loop-index g l = record {
  reader : IsReader l.table l.seat;
  used_is : l.used ≡ 2 + words_of_key l.length;
  fits : l.used ≤ LEAF_FIELDS;
  room : l.used + 1 ≤ leaf_size l.table.layout (record_number l.fn.leaf.rec);
  reads : Reads l.table g.G.Gate.becomes 0 l.index (l.fn.seat, l.fn.gate) (l.seat, l.gate);
  long : length l.places ≡ MAX_BYTES;
  small : (b : ℕ) → get_or (front l.index l.places) b 0 < 256;
  so_far : AreSoFar l.fn.seat.known l.seat.known (record_number l.fn.leaf.rec) l.index l.value l.length (front l.index l.places);
  zeros : l.fn.places ≡ replicate MAX_BYTES 0 →
      AreSoFar l.fn.seat.known l.seat.known (record_number l.fn.leaf.rec) l.index l.value l.length l.places × ((b : ℕ) → get_or l.places b 0 < 256);
}
