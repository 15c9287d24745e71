-- The leaves so far were passed, on each way on which they came next.
use Rattle.rowex_scanning.proofs.Common.{ℕ, ◌*◌, ◌≤◌, List, length, LEAF_FIELDS, PathNode, IsReader, Reads, since}
use Rattle.rowex_scanning.specs.Ahead.{AreAhead, AreNext, HavePassed}
use Rattle.rowex_scanning.specs.Scanning.{request_of}
use Rattle.rowex_scanning.proofs.taking.take_leaves_to_end.Given as goal

abbrev pub invariant-loop-index : goal.invariant-loop-index
invariant-loop-index g l = record {
  reader : IsReader l.scan.table.now l.seat;
  reads : (n : ℕ) × (n ≤ LEAF_FIELDS * l.index) × Reads l.scan.table.now g.G.Gate.becomes 0 n (l.fn.seat, l.fn.gate) (l.seat, l.gate);
  passed : (top : PathNode) (frames : List PathNode) → AreNext l.fn.seat.known (request_of l.scan.range.now) top frames (g.S.Tallies.tally l.fn.sink) l.leaves →
      AreAhead l.scan.range.now.direction l.seat.known (since l.fn.seat.known) top (length l.leaves) l.leaves ×
      HavePassed l.seat.known (since l.fn.seat.known) (request_of l.scan.range.now) frames top (g.S.Tallies.tally l.fn.sink).size l.index (g.S.Tallies.tally l.sink);
}
