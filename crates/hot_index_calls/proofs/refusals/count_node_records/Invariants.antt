-- So many are among the records below the index.
use Rattle.std.specs.Prelude.{◌≡◌, ◌≤◌, length, take}
use Rattle.rowex_writing.specs.build.Walks.{nodes_among}
use Rattle.hot_index_calls.proofs.refusals.count_node_records.Given as goal

abbrev pub invariant-loop-index : goal.invariant-loop-index
invariant-loop-index l = record {
  count : l.count ≡ length (nodes_among (take l.index l.recs));
  few : l.count ≤ l.index;
}
