-- The law is a lemma on legal calls.
use Rattle.finite_map.proofs.Calls.{legal_longer}
use Rattle.plain_index.proofs.laws.legal_calls_stay_legal_in_longer_fronts.Goals as goal

pub returns : goal.returns
returns c = legal_longer
