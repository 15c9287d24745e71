-- The counts of the kinds below the number have been loaded.
use Rattle.std.specs.Prelude.{◌≡◌, length}
use Rattle.record_words.specs.declared.TheConstants.{RECORD_KINDS}
use Rattle.rowex_table.specs.Seats.{IsSeatOf}
use Rattle.epochs.specs.Rounds.{LoadsUncommitted}
use Rattle.epochs.proofs.collection.load_uncommitted_counts.Given as goal

abbrev pub invariant-loop-kind : goal.invariant-loop-kind
invariant-loop-kind l = record {
  own : IsSeatOf l.table l.seat;
  long : length l.counts ≡ RECORD_KINDS;
  loads : LoadsUncommitted l.table.layout l.kind l.counts l.fn.seat l.seat;
}
