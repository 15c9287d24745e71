-- The unused places are filled.
use Rattle.std.proofs.Common.{ap, sym, ◌∙◌}
use Rattle.partial_keys.specs.Columns.{with_free}
use Rattle.partial_keys.proofs.Columns.padded_positions.Goals as goal

pub returns : goal.returns
returns c = sym c.self.invariant.filled ∙ ap with_free c.self.view_is
