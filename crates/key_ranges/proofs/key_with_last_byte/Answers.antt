-- One byte more.
use Rattle.key_ranges.proofs.Ranges.Places.{holds_one_more}
use Rattle.key_ranges.proofs.key_with_last_byte.Goals as goal

pub from_padded-requires : goal.from_padded-requires
from_padded-requires c = holds_one_more c.args.front.now _ c.args.last c.copy_from_slice.ensures.after c.requires.key c.requires.room c.ranges.last.fits
