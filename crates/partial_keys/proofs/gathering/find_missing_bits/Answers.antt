-- Each lane by itself.
use Rattle.partial_keys.proofs.Windows.{missed_at, missed_long, places_ok}
use Rattle.partial_keys.proofs.gathering.find_missing_bits.Goals as goal

pub swizzle-key_bytes : goal.swizzle-key_bytes
swizzle-key_bytes c = places_ok c.args.bytes c.args.first c.fits-bytes.0

pub returns-clause-whole : goal.returns-clause-whole
returns-clause-whole c = missed_long c.args.bytes c.args.masks c.args.window c.args.first c.args.last c.fits-bytes.0 c.fits-masks.0 c.fits-window.0 c.fits-bytes.1 c.ranges.first.fits c.ranges.last.fits

pub returns-clause-each : goal.returns-clause-each
returns-clause-each c i low = missed_at c.args.bytes c.args.masks c.args.window c.args.first c.args.last c.fits-bytes.0 c.fits-masks.0 c.fits-window.0 c.fits-bytes.1 c.ranges.first.fits c.ranges.last.fits i low
