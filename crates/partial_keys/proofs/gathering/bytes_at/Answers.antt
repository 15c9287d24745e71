-- A whole part of a product is a byte, or it is cut to 255.
use Rattle.partial_keys.proofs.Windows.{bytes_lanes, up_to_255_fits, wholes, wholes_fit}
use Rattle.std.proofs.Common.{map}
use Rattle.partial_keys.proofs.gathering.bytes_at.Goals as goal

pub overflow_cast-bytes : goal.overflow_cast-bytes
overflow_cast-bytes c = wholes_fit 32 c.args.positions

pub overflow_cast-result : goal.overflow_cast-result
overflow_cast-result c = up_to_255_fits 32 (map (λ a. a) (wholes 32 c.args.positions))

pub returns : goal.returns
returns c = bytes_lanes 32 c.args.positions c.fits-positions.0 c.fits-positions.1
