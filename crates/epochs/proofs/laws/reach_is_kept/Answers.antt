-- The law reach_is_kept.
use Rattle.epochs.proofs.Reach.{reach_is_kept}
use Rattle.epochs.proofs.laws.reach_is_kept.Goals as goal

pub returns : goal.returns
returns c = reach_is_kept
