use Rattle.rowex_core.proofs.Writers.{value_is_legal}
use Rattle.rowex_core.proofs.writer_laws.guarded_store_of_value_is_legal_publish.Goals as goal

pub returns : goal.returns
returns c = value_is_legal
