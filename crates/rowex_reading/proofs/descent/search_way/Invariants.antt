-- The search has come down its way, and has been led to the entry; a node's entries are lower than the node.
use Rattle.compound_node.specs.Nodes.{height_of}
use Rattle.rowex_reading.specs.Reads.{IsReader}
use Rattle.rowex_reading.specs.Seen.{since}
use Rattle.rowex_reading.proofs.lookup.Lookup.{IsAt}
use Rattle.rowex_reading.proofs.descent.Descent.{IsGoing}
use Rattle.rowex_reading.proofs.descent.search_way.Given as goal

abbrev pub invariant-loop-entry : goal.invariant-loop-entry
invariant-loop-entry g l = record {
  reader : IsReader l.table l.seat;
  at : IsAt l.table g.G.Gate.becomes (l.fn.seat, l.fn.gate) (l.seat, l.gate) l.key l.entry;
  going : IsGoing l.table.layout l.seat.known (since l.seat.known) l.key l.way.items l.entry;
}

abbrev pub decreases-loop-entry : goal.decreases-loop-entry
decreases-loop-entry g l = height_of l.entry
