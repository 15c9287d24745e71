-- The state is that of the run's core, where the content is the map of the changes.
use Rattle.std.proofs.Common.{sym, ◌∙◌}
use Rattle.std.proofs.lemmas.Result.{IfOk-weaker}
use Rattle.rowex_replay.proofs.Runs.{told}
use Rattle.rowex_replay.proofs.replay.Replay.content.Goals as goal

pub returns-clause-version : goal.returns-clause-version
returns-clause-version c = rw (sym c.self.view_is) (IfOk-weaker c.content.result _ _ (λ pairs p. p _ c.self.invariant.at) c.content.ensures)

pub returns-clause-map : goal.returns-clause-map
returns-clause-map c = rw (sym c.self.view_is) (IfOk-weaker c.content.result _ _ (λ pairs p. p _ c.self.invariant.at ∙ told _ c.self.invariant.legal) c.content.ensures)
