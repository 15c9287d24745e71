-- The law handles_that_see_are_linearizable.
use Rattle.index_laws.proofs.Joined.{handles_are_linearizable}
use Rattle.index_laws.proofs.laws.handles_that_see_are_linearizable.Goals as goal

pub returns : goal.returns
returns c = handles_are_linearizable
