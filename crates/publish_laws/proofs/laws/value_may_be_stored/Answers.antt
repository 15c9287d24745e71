use Rattle.publish_laws.proofs.Cases.{store_value}
use Rattle.publish_laws.proofs.laws.value_may_be_stored.Goals as goal

pub returns : goal.returns
returns c = store_value
