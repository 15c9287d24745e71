-- The records tried so far are not free, the next to try is the one behind them, and as many may be tried as at first.
use Rattle.std.specs.Prelude.{◌≡◌, ◌≤◌, ◌-◌, None}
use Rattle.rowex_table.specs.Committed.{AtMost}
use Rattle.record_words.specs.Layout.{uncommitted_in}
use Rattle.rowex_table.specs.Seats.{IsSeatOf}
use Rattle.rowex_records.specs.Claims.{GoesOnBehind, count_of, wrapped}
use Rattle.rowex_records.proofs.claiming.claim_record_behind.Given as goal

abbrev pub invariant-loop-tried : goal.invariant-loop-tried
invariant-loop-tried g l = record {
  own : IsSeatOf l.table l.seat;
  bounds : AtMost (uncommitted_in l.seat.bounds) (uncommitted_in l.fn.seat.bounds);
  none : GoesOnBehind l.table g.G.Gate.becomes l.kind l.begin l.tried (None, l.tried) (l.fn.seat, l.fn.gate) (l.seat, l.gate);
  number : l.number ≡ wrapped (count_of l.kind l.table.layout) l.begin l.tried;
  low : l.tried ≤ l.most;
}

abbrev pub decreases-loop-tried : goal.decreases-loop-tried
decreases-loop-tried g l = l.most - l.tried
