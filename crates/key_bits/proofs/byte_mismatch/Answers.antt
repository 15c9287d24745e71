-- Leading zeros of the exclusive or count the bits in front of the first difference.
use Rattle.key_bits.proofs.Bits.Bytes.{leading_zeros-differ}
use Rattle.key_bits.proofs.byte_mismatch.Goals as goal

pub returns-clause-bound : goal.returns-clause-bound
returns-clause-bound c = (leading_zeros-differ c.args.x c.args.y c.ranges.x.fits c.ranges.y.fits c.requires).0

pub returns-clause-first : goal.returns-clause-first
returns-clause-first c = (leading_zeros-differ c.args.x c.args.y c.ranges.x.fits c.ranges.y.fits c.requires).1
