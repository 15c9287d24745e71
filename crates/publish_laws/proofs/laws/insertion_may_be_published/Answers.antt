use Rattle.publish_laws.proofs.Insertions.Inserting.{insertion}
use Rattle.publish_laws.proofs.laws.insertion_may_be_published.Goals as goal

pub returns : goal.returns
returns c = insertion
