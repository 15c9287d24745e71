-- Fields that some node has fit together.
use Rattle.compound_node.proofs.Lawful.{head_fits}
use Rattle.compound_node.proofs.heads.Head.of.Goals as goal

pub invariant_of-result : goal.invariant_of-result
invariant_of-result c = head_fits c.args.count c.args.height c.args.columns c.args.padded_rows c.requires
