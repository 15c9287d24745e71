use Rattle.rowex_core.proofs.Events.Appending.{only_publish_appends}
use Rattle.rowex_core.proofs.laws.only_publish_appends.Goals as goal

pub returns : goal.returns
returns c = only_publish_appends
