-- The words of the kinds below this one have been loaded.
use Rattle.std.specs.Prelude.{◌≡◌, ◌<◌, ℕ, get_or, length}
use Rattle.record_words.specs.Layout.{uncommitted_in}
use Rattle.record_words.specs.declared.TheConstants.{RECORD_KINDS}
use Rattle.rowex_table.specs.Committed.{TakenAreCommitted}
use Rattle.rowex_table.specs.Seats.{HasFoundBounds}
use Rattle.hot_index_calls.proofs.census.load_uncommitted.Given as goal

abbrev pub invariant-loop-kind : goal.invariant-loop-kind
invariant-loop-kind l = record {
  found : HasFoundBounds l.fn.seat l.seat;
  long : length l.words ≡ RECORD_KINDS;
  each : (other : ℕ) → other < l.kind → get_or l.words other 0 ≡ uncommitted_in l.seat.bounds other;
  taken : (other : ℕ) → other < l.kind → TakenAreCommitted l.table.layout l.seat.trace other (uncommitted_in l.seat.bounds other);
}
