-- The law nodes_are_fewer_than_leaves.
use Rattle.tries.proofs.Counts.{nodes_are_fewer}
use Rattle.tries.proofs.laws.nodes_are_fewer_than_leaves.Goals as goal

pub returns : goal.returns
returns c = nodes_are_fewer
