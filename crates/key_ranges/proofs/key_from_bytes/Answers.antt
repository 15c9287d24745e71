-- The bytes stand at the front of the places.
use Rattle.key_bits.proofs.Holding.{holds, written}
use Rattle.key_ranges.proofs.key_from_bytes.Goals as goal

pub from_padded-requires : goal.from_padded-requires
from_padded-requires c = holds c.args.front.now _ c.requires (rw c.copy_from_slice.ensures.after (written c.args.front.now))
