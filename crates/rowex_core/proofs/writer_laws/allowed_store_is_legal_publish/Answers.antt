use Rattle.rowex_core.proofs.Writers.{publish_is_legal}
use Rattle.rowex_core.proofs.writer_laws.allowed_store_is_legal_publish.Goals as goal

pub returns : goal.returns
returns c = publish_is_legal
