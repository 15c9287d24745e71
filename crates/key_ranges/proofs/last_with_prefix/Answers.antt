-- The prefix, and 255 at all places behind it.
use Rattle.std.proofs.Common.{ap, sym, subst, ◌∙◌}
use Rattle.key_bits.specs.Key.{IsKey}
use Rattle.key_ranges.specs.Ranges.{last_with}
use Rattle.key_ranges.proofs.Ranges.Places.{holds_last, takes_last, written_last}
use Rattle.key_ranges.proofs.last_with_prefix.Goals as goal

pub from_padded-requires : goal.from_padded-requires
from_padded-requires c =
    let bytes = c.as_bytes-bytes.result.now in
    holds_last bytes _ (subst IsKey (sym c.as_bytes-bytes.ensures.bytes) c.as_bytes-bytes.ensures.key) (written_last bytes c.copy_from_slice.new.self c.copy_from_slice.ensures.after)

pub returns : goal.returns
returns c =
    let bytes = c.as_bytes-bytes.result.now in
    let is_key = subst IsKey (sym c.as_bytes-bytes.ensures.bytes) c.as_bytes-bytes.ensures.key in
    c.from_padded.ensures ∙ (takes_last bytes _ is_key (written_last bytes c.copy_from_slice.new.self c.copy_from_slice.ensures.after) ∙ ap last_with c.as_bytes-bytes.ensures.bytes)
