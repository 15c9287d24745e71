-- The law steps_need_no_gate.
use Rattle.index_laws.proofs.Joined.{steps_need_no_gate}
use Rattle.index_laws.proofs.laws.steps_need_no_gate.Goals as goal

pub returns : goal.returns
returns g c = steps_need_no_gate g.G.Gate.becomes
