-- The law seeing_is_done.
use Rattle.index_laws.proofs.Joined.{seeing_is_done}
use Rattle.index_laws.proofs.laws.seeing_is_done.Goals as goal

pub returns : goal.returns
returns c = seeing_is_done
