-- The law all_promises_hold.
use Rattle.index_laws.proofs.Headline.{headline}
use Rattle.index_laws.proofs.laws.all_promises_hold.Goals as goal

pub returns : goal.returns
returns c = headline
