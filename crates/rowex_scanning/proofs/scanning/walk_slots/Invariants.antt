-- The pass has made loads alone, which are paid for; where the walk is; and what it has still to do.
use Rattle.rowex_scanning.proofs.Common.{ℕ, IsReader, Reads, since, first_key}
use Rattle.rowex_scanning.specs.Scanning.{asked_range, request_of, IsBound, IsWalk}
use Rattle.rowex_scanning.proofs.Walking.{IsPaid, rest_of}
use Rattle.rowex_scanning.proofs.scanning.walk_slots.Given as goal

abbrev pub invariant-loop-seat : goal.invariant-loop-seat
invariant-loop-seat g l = record {
  reader : IsReader l.scan.table.now l.seat;
  reads : (loads entries : ℕ) × IsPaid l.scan.range.now.direction loads entries (g.S.Tallies.tally l.sink).size l.top l.way.items × Reads l.scan.table.now g.G.Gate.becomes entries loads (l.fn.seat, l.fn.gate) (l.seat, l.gate);
  walk : IsWalk l.seat.known (since l.fn.seat.known) (request_of l.scan.range.now) l.top l.way.items (g.S.Tallies.tally l.sink);
  bound : IsBound l.scan.range.now.direction l.seat.known (since l.fn.seat.known) (first_key l.scan.range.now.direction (asked_range l.scan.range.now)) l.top l.way.items;
}

abbrev pub decreases-loop-seat : goal.decreases-loop-seat
decreases-loop-seat g l = rest_of l.scan.range.now.direction l.top l.way.items
