-- The law an_insert_is_found.
use Rattle.index_laws.proofs.Finding.{an_insert_is_found}
use Rattle.index_laws.proofs.laws.an_insert_is_found.Goals as goal

pub returns : goal.returns
returns c = an_insert_is_found
