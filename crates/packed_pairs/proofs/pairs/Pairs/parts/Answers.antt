-- The heads and the bytes are those of the pairs.
use Rattle.std.proofs.Common.{ap, map, ◌∙◌}
use Rattle.packed_pairs.specs.Parts.{packed_head, keys_in}
use Rattle.packed_pairs.proofs.Fits.{heads_are, keys_are}
use Rattle.packed_pairs.proofs.pairs.Pairs.parts.Goals as goal

pub returns-clause-heads : goal.returns-clause-heads
returns-clause-heads c = c.as_slice.ensures ∙ (heads_are c.self.inside.heads c.self.inside.bytes c.self.invariant ∙ ap (map packed_head) c.self.view_is)

pub returns-clause-keys : goal.returns-clause-keys
returns-clause-keys c = c.as_slice-2.ensures ∙ (keys_are c.self.inside.heads c.self.inside.bytes c.self.invariant ∙ ap keys_in c.self.view_is)
