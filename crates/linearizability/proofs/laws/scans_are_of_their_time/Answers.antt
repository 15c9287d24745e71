use Rattle.linearizability.proofs.Scanning.{scans_in_time}
use Rattle.linearizability.proofs.laws.scans_are_of_their_time.Goals as goal

pub returns : goal.returns
returns c = scans_in_time
