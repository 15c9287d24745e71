-- The bytes are those of the keys.
use Rattle.std.proofs.Common.{ap, length, ◌∙◌}
use Rattle.packed_pairs.specs.Parts.{keys_in}
use Rattle.packed_pairs.proofs.Fits.{keys_are}
use Rattle.packed_pairs.proofs.pairs.Pairs.key_bytes.Goals as goal

pub returns : goal.returns
returns c = c.len.ensures ∙ ap length (keys_are c.self.inside.heads c.self.inside.bytes c.self.invariant ∙ ap keys_in c.self.view_is)
