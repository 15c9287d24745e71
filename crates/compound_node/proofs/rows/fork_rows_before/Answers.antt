-- The lanes behind the first one move up, and those of the part have the bits.
use Rattle.compound_node.proofs.rows.Shifting.{rows_joined}
use Rattle.compound_node.proofs.rows.fork_rows_before.Goals as goal

pub returns : goal.returns
returns c = rows_joined c.args.rows c.fits-rows.0 c.args.first c.args.end c.args.bits c.requires.order c.requires.in_range
