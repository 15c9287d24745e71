-- The words so far are those of the key.
use Rattle.rowex_reading.proofs.Common.{◌≡◌, ◌+◌, ◌-◌, ◌≤◌, length, a_leaf, LEAF_FIELDS, leaf_size, words_of_key, record_number}
use Rattle.rowex_reading.specs.Reads.{IsReader, Reads}
use Rattle.rowex_reading.proofs.Seen.Valuing.{words_with}
use Rattle.rowex_reading.proofs.reading.Wording.{IsKeyWord}
use Rattle.rowex_reading.specs.Seen.{AreLoaded}
use Rattle.rowex_reading.proofs.reading.compare_leaf.Given as goal

abbrev pub invariant-loop-index : goal.invariant-loop-index
invariant-loop-index g l = record {
  reader : IsReader l.table l.seat;
  end_is : l.end ≡ 2 + words_of_key (length l.key);
  fits : l.end ≤ LEAF_FIELDS;
  room : l.end + 1 ≤ leaf_size l.table.layout (record_number l.leaf.rec);
  reads : Reads l.table g.G.Gate.becomes 0 (l.index - 1) (l.fn.seat, l.fn.gate) (l.seat, l.gate);
  loaded : AreLoaded l.fn.seat.known l.seat.known (a_leaf (record_number l.leaf.rec)) 0 (IsKeyWord l.index) (words_with l.key);
}
