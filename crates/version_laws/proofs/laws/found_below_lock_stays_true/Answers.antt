use Rattle.version_laws.proofs.Writer.{found_kept}
use Rattle.version_laws.proofs.laws.found_below_lock_stays_true.Goals as goal

pub returns : goal.returns
returns c = found_kept
