use Rattle.publish_laws.proofs.Insertions.Inserting.{first_made}
use Rattle.publish_laws.proofs.laws.first_key_may_be_published.Goals as goal

pub returns : goal.returns
returns c = first_made
