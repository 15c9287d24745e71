-- The law idle_changes_end.
use Rattle.index_laws.proofs.Alone.{idle_changes_end}
use Rattle.index_laws.proofs.laws.idle_changes_end.Goals as goal

pub returns : goal.returns
returns g c = idle_changes_end g.G.Gate.becomes
