-- The law nodes_in_tree_are_fewer_than_keys.
use Rattle.versions.proofs.Counts.{nodes_in_tree_are_fewer}
use Rattle.versions.proofs.laws.nodes_in_tree_are_fewer_than_keys.Goals as goal

pub returns : goal.returns
returns c = nodes_in_tree_are_fewer
