-- The law idle_passes_leave_alone.
use Rattle.index_laws.proofs.Resting.{idle_passes_leave_alone}
use Rattle.index_laws.proofs.laws.idle_passes_leave_alone.Goals as goal

pub returns : goal.returns
returns c = idle_passes_leave_alone
