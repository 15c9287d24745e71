-- Both halves of the rows that count, joined.
use Rattle.std.proofs.Common.{◌∙◌}
use Rattle.compound_node.proofs.Lowering.{or_front}
use Rattle.compound_node.proofs.rows.or_first_rows.Goals as goal

pub returns : goal.returns
returns c = c.or_lanes.ensures ∙ or_front c.args.rows c.fits-rows.0 c.args.count c.requires
