use Rattle.rowex_core.proofs.Having.{owned_after_publish}
use Rattle.rowex_core.proofs.writer_laws.publisher_owns_what_it_unlinked.Goals as goal

pub returns : goal.returns
returns c = owned_after_publish
