-- The law committed_are_visited.
use Rattle.epochs.proofs.Rounds.{committed_are_visited}
use Rattle.epochs.proofs.laws.committed_are_visited.Goals as goal

pub returns : goal.returns
returns g c = committed_are_visited g.G.Gate.becomes
