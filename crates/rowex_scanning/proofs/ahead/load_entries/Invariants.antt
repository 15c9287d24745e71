-- The entries so far lead to leaves, whose records begin at the first starts. The slots go on behind them.
use Rattle.rowex_scanning.proofs.Common.{◌≡◌, ℕ, ◌≤◌, length, IsReader, Reads}
use Rattle.rowex_scanning.specs.Ahead.{AreAhead, AreSlots, FirstLeavesBeginAt, HasPlaces}
use Rattle.rowex_scanning.specs.declared.ahead.TheConstants.{MOST_AHEAD}
use Rattle.rowex_scanning.proofs.ahead.load_entries.Given as goal

abbrev pub invariant-loop-index : goal.invariant-loop-index
invariant-loop-index g l = record {
  reader : IsReader l.scan.table.now l.seat;
  reads : (n : ℕ) × (n ≤ l.index) × Reads l.scan.table.now g.G.Gate.becomes l.index n (l.fn.seat, l.fn.gate) (l.seat, l.gate);
  long : length l.leaves ≡ MOST_AHEAD;
  wide : length l.starts ≡ MOST_AHEAD;
  slots : AreSlots l.scan.range.now.direction l.top.count l.top.slot l.index l.slots;
  starts : FirstLeavesBeginAt l.scan.table.now.layout l.index l.leaves l.starts;
  ahead : (m : ℕ) → HasPlaces l.scan.range.now.direction l.fn.seat.known m l.top → AreAhead l.scan.range.now.direction l.seat.known m l.top l.index l.leaves;
}
