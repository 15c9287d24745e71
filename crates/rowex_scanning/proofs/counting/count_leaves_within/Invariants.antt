-- The leaf before those in question is not past the range, and the one behind them is.
use Rattle.rowex_scanning.proofs.Common.{◌≡◌, ℕ, ◌+◌, ◌-◌, ◌*◌, ◌<◌, ◌≤◌, length, get_or, LEAF_FIELDS, IsReader, Reads, since}
use Rattle.rowex_scanning.specs.Ahead.{IsLeafNotPast, IsLeafPast}
use Rattle.rowex_scanning.specs.Scanning.{request_of}
use Rattle.rowex_scanning.proofs.counting.count_leaves_within.Given as goal

abbrev pub invariant-loop-within : goal.invariant-loop-within
invariant-loop-within g l = record {
  reader : IsReader l.scan.table.now l.seat;
  order : l.within ≤ l.past;
  inside : l.past < length l.leaves;
  reads : (n : ℕ) × (n + LEAF_FIELDS * (l.past - l.within) ≤ LEAF_FIELDS * length l.leaves) × Reads l.scan.table.now g.G.Gate.becomes 0 n (l.fn.seat, l.fn.gate) (l.seat, l.gate);
  not_past : (i : ℕ) → i < l.within → i + 1 ≡ l.within → IsLeafNotPast l.seat.known (since l.fn.seat.known) (request_of l.scan.range.now) (get_or l.leaves i 0);
  past : IsLeafPast l.seat.known (since l.fn.seat.known) (request_of l.scan.range.now) (get_or l.leaves l.past 0);
}

abbrev pub decreases-loop-within : goal.decreases-loop-within
decreases-loop-within g l = l.past - l.within
