use Rattle.version_laws.proofs.Statements.Search.{end}
use Rattle.version_laws.proofs.laws.lookup_is_current.Goals as goal

pub returns : goal.returns
returns c = end
