-- It is the invariant of the type.
use Rattle.std.proofs.Common.{sym}
use Rattle.rowex_replay.proofs.Runs.{lawful}
use Rattle.rowex_replay.proofs.laws.runs_are_legal.Goals as goal

pub returns-clause-lawful : goal.returns-clause-lawful
returns-clause-lawful c = rw (sym c.replay.view_is) (lawful _ c.replay.invariant.legal)
