-- Each lane is the one behind it, without what it loses.
use Rattle.compound_node.proofs.Lowering.{lowered_at, lowered_long}
use Rattle.compound_node.proofs.rows.lower_rows.Goals as goal

pub returns-clause-whole : goal.returns-clause-whole
returns-clause-whole c = lowered_long c.args.rows c.fits-rows.0 c.fits-rows.1 c.args.count c.args.slot c.args.end c.args.bit c.ranges.bit.fits

pub returns-clause-each : goal.returns-clause-each
returns-clause-each c = lowered_at c.args.rows c.fits-rows.0 c.fits-rows.1 c.args.count c.args.slot c.args.end c.args.bit c.ranges.bit.fits c.requires.few
