-- The keys before the index have been compared with their leaves.
use Rattle.rowex_reading.proofs.Common.{◌≡◌, ℕ, ◌*◌, ◌≤◌, length, LEAF_FIELDS}
use Rattle.rowex_reading.specs.Lookups.{HaveFound}
use Rattle.rowex_reading.specs.Reads.{IsReader, Reads}
use Rattle.rowex_reading.specs.Together.{HaveComeTo}
use Rattle.rowex_reading.proofs.together.load_values.Given as goal

abbrev pub invariant-loop-index : goal.invariant-loop-index
invariant-loop-index g l = record {
  reader : IsReader l.table l.seat;
  room : length l.found ≡ length l.keys;
  ways : HaveComeTo l.seat.known l.keys l.tips;
  found : HaveFound l.seat.known l.index l.keys l.found;
  reads : (n : ℕ) × (n ≤ LEAF_FIELDS * l.index) × Reads l.table g.G.Gate.becomes 0 n (l.fn.seat, l.fn.gate) (l.seat, l.gate);
}
