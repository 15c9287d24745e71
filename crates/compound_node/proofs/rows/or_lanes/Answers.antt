-- Both halves of the lanes are joined until four are left.
use Rattle.compound_node.proofs.Lowering.{or_sixteen}
use Rattle.compound_node.proofs.rows.or_lanes.Goals as goal

pub returns : goal.returns
returns c = or_sixteen c.args.rows c.fits-rows.0
