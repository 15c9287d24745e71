-- A part of a product is a place in the table.
use Rattle.partial_keys.proofs.Windows.{masks_lanes, parts_fit, parts_ok}
use Rattle.partial_keys.proofs.gathering.masks_at.Goals as goal

pub overflow_cast-result : goal.overflow_cast-result
overflow_cast-result c = parts_fit 32 c.args.positions

pub swizzle : goal.swizzle
swizzle c = parts_ok c.args.positions c.fits-positions.0

pub returns : goal.returns
returns c = masks_lanes c.args.positions c.repeat_lanes.result c.fits-positions.0 c.repeat_lanes.ensures
