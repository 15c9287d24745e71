-- The records of the span below the index are not free, and the next begins where it says.
use Rattle.std.specs.Prelude.{◌≡◌, ◌+◌, None}
use Rattle.rowex_table.specs.Committed.{AtMost}
use Rattle.record_words.specs.Layout.{uncommitted_in}
use Rattle.rowex_table.specs.Seats.{IsSeatOf}
use Rattle.rowex_records.specs.Claims.{GoesOnTrying}
use Rattle.rowex_records.specs.Starts.{first_word}
use Rattle.rowex_records.proofs.claiming.claim_record_in_span.Given as goal

abbrev pub invariant-loop-index : goal.invariant-loop-index
invariant-loop-index g l = record {
  own : IsSeatOf l.table l.seat;
  bounds : AtMost (uncommitted_in l.seat.bounds) (uncommitted_in l.fn.seat.bounds);
  start : l.start ≡ first_word l.kind l.table.layout (l.span.number + l.index);
  tries : GoesOnTrying l.table g.G.Gate.becomes l.kind l.span.number l.index None (l.fn.seat, l.fn.gate) (l.seat, l.gate);
}
