use Rattle.rowex_core.proofs.Events.Finding.{finds_change}
use Rattle.rowex_core.proofs.laws.legality_finds_change.Goals as goal

pub returns : goal.returns
returns c = finds_change
