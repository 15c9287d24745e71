-- The parts make the whole.
use Rattle.std.proofs.Common.{refl}
use Rattle.hot_index_calls.proofs.Counted.{counts_all}
use Rattle.hot_index_calls.proofs.census.count_records.Goals as goal

pub returns-clause-steps : goal.returns-clause-steps
returns-clause-steps g c =
    let of = c.layout-layout.ensures in
    counts_all c.load_state-first.ensures c.load_uncommitted-words.ensures refl c.count_nodes-nodes.ensures.steps (rw of at c.count_leaves-short.ensures.steps) (rw of at c.count_leaves-medium.ensures.steps)
    (rw of at c.count_leaves-large.ensures.steps) (rw of at c.count_leaves-wide.ensures.steps) (rw of at c.count_leaves-long.ensures.steps) _ (rw of at c.bytes.ensures)
