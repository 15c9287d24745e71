-- The words show a new table, and the counts so far stand among them.
use Rattle.std.specs.Prelude.{◌≡◌, ◌+◌, ◌<◌, ℕ, get_or}
use Rattle.record_words.specs.declared.TheConstants.{FIRST_UNCOMMITTED}
use Rattle.rowex_core.specs.Opening.{opening}
use Rattle.rowex_core.specs.Words.{Shows}
use Rattle.rowex_table.proofs.table.HotTable.new_reserved.Given as goal

abbrev pub invariant-loop-kind : goal.invariant-loop-kind
invariant-loop-kind l = record {
  shows : Shows (opening l.layout) l.words.items;
  counts : (other : ℕ) → other < l.kind → get_or l.words.items (FIRST_UNCOMMITTED + other) 0 ≡ get_or l.uncommitted other 0;
}
