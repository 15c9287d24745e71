use Rattle.version_laws.proofs.Statements.Search.{begin_empty}
use Rattle.version_laws.proofs.laws.load_tells_empty_root.Goals as goal

pub returns : goal.returns
returns c = begin_empty
