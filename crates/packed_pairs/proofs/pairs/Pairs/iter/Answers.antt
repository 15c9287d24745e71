-- What is packed are keys.
use Rattle.std.proofs.Common.{subst}
use Rattle.std.specs.Prelude.{All}
use Rattle.key_bits.specs.Key.{IsKey}
use Rattle.packed_pairs.proofs.Packed.{all_keys}
use Rattle.packed_pairs.proofs.pairs.Pairs.iter.Goals as goal

pub returns-clause-keys : goal.returns-clause-keys
returns-clause-keys c = subst (λ pairs. All (λ pair. IsKey pair.0) pairs) c.self.view_is (all_keys c.self.inside.heads c.self.inside.bytes c.self.invariant)
