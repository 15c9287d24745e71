use Rattle.version_laws.proofs.Statements.Leaves.{upsert_at_spot}
use Rattle.version_laws.proofs.laws.upsert_at_spot_replaces_value.Goals as goal

pub returns : goal.returns
returns c = upsert_at_spot
