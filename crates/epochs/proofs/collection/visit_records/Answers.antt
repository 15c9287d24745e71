-- Its parts.
use Rattle.epochs.proofs.collection.visit_records.Goals as goal

pub returns-clause-steps : goal.returns-clause-steps
returns-clause-steps g c = record {
  counts = c.load_uncommitted_counts-uncommitted.result;
  begun = c.load_uncommitted_counts-uncommitted.new.seat;
  loads = c.load_uncommitted_counts-uncommitted.ensures;
  middle = (c.visit_node_records-nodes.new.seat, c.visit_node_records-nodes.new.gate);
  nodes = c.visit_node_records-nodes.ensures.steps;
  leaves = c.visit_leaf_records-leaves.ensures.steps;
}
