use Rattle.rowex_core.proofs.Frames.{frame}
use Rattle.rowex_core.proofs.laws.steps_leave_what_others_have.Goals as goal

pub returns : goal.returns
returns c = frame
