-- The bytes stand at the front of the places.
use Rattle.key_bits.proofs.Holding.{holds, written}
use Rattle.packed_pairs.proofs.iter.key_from_bytes.Goals as goal

pub from_padded-requires : goal.from_padded-requires
from_padded-requires c = holds c.args.bytes.now _ c.requires (rw c.copy_from_slice.ensures.after (written c.args.bytes.now))
