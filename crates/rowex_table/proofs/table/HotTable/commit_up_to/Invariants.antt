-- No more than `left` are uncommitted, and each exchange that leaves some finds fewer.
use Rattle.std.specs.Prelude.{◌≤◌}
use Rattle.record_words.specs.Layout.{uncommitted_in}
use Rattle.rowex_table.specs.Seats.{HasFoundBounds, IsSeatOf}
use Rattle.rowex_table.proofs.table.HotTable.commit_up_to.Given as goal

abbrev pub invariant-loop-left : goal.invariant-loop-left
invariant-loop-left l = record {
  own : IsSeatOf l.self l.seat;
  bounds : HasFoundBounds l.fn.seat l.seat;
  few : uncommitted_in l.seat.bounds l.kind ≤ l.left;
}

abbrev pub decreases-loop-left : goal.decreases-loop-left
decreases-loop-left l = l.left
