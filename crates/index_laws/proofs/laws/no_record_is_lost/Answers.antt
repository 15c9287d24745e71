-- The law no_record_is_lost.
use Rattle.index_laws.proofs.Resting.{no_record_is_lost}
use Rattle.index_laws.proofs.laws.no_record_is_lost.Goals as goal

pub returns : goal.returns
returns g c = no_record_is_lost g.G.Gate.becomes
