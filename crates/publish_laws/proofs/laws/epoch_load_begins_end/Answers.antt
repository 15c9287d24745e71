use Rattle.publish_laws.proofs.Ending.{end_begins}
use Rattle.publish_laws.proofs.laws.epoch_load_begins_end.Goals as goal

pub returns : goal.returns
returns c = end_begins
