use Rattle.publish_laws.proofs.Acts.{loads_of_locked}
use Rattle.publish_laws.proofs.laws.loads_are_locked_words.Goals as goal

pub returns : goal.returns
returns c = loads_of_locked
