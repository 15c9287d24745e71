-- The records so far are not free, and the next to look at is the one behind them.
use Rattle.std.specs.Prelude.{◌≡◌}
use Rattle.rowex_table.specs.Seats.{IsSeatOf}
use Rattle.rowex_records.specs.Claims.{FindsNone, begin_of, count_of, record_of, wrapped}
use Rattle.rowex_records.proofs.claiming.find_free_record.Given as goal

abbrev pub invariant-loop-tried : goal.invariant-loop-tried
invariant-loop-tried g l = record {
  own : IsSeatOf l.table l.seat;
  none : FindsNone l.table g.G.Gate.becomes (record_of l.kind) (count_of l.kind l.table.layout) (begin_of (count_of l.kind l.table.layout) l.from) l.tried (l.fn.seat, l.fn.gate) (l.seat, l.gate);
  number : l.number ≡ wrapped (count_of l.kind l.table.layout) (begin_of (count_of l.kind l.table.layout) l.from) l.tried;
}
