-- Each lane's index and mask tell its position, in the opposite order.
use Rattle.record_words.proofs.near.NearSpelling.{highs_ok, lows_ok, positions_made}
use Rattle.record_words.proofs.near.near_positions.Goals as goal

pub swizzle-low : goal.swizzle-low
swizzle-low c = lows_ok c.args.masks c.fits-masks.0 c.fits-masks.1

pub swizzle-high : goal.swizzle-high
swizzle-high c = highs_ok c.args.masks c.fits-masks.0 c.fits-masks.1

pub returns : goal.returns
returns c = λ columns lanes. positions_made c.args.masks c.fits-masks.0 c.fits-masks.1 c.args.indexes c.fits-indexes.0 c.args.first columns lanes.has lanes.indexes_are lanes.masks_are lanes.first_is
