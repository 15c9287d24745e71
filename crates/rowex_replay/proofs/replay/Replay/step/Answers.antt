-- The run goes on where the event is legal, and the state with it.
use Rattle.std.proofs.Common.{sym}
use Rattle.std.proofs.lemmas.Result.{err_from_is_err_and}
use Rattle.rowex_replay.proofs.Runs.{goes_on, legal_next, refuses, wants_memory}
use Rattle.rowex_replay.proofs.replay.Replay.step.Goals as goal

pub returns-in_err-step-clause-illegal : goal.returns-in_err-step-clause-illegal
returns-in_err-step-clause-illegal c =
    let p = err_from_is_err_and c.from_residual.result c.from_residual.ensures.1 in
    rw (sym c.self.view_is, p.1, p.2) (λ e. refuses c.self.inside.state c.self.inside.history.run c.args.event c.self.invariant (c.in_err-step.ensures.illegal e))

pub returns-in_err-step-clause-memory : goal.returns-in_err-step-clause-memory
returns-in_err-step-clause-memory c =
    let p = err_from_is_err_and c.from_residual.result c.from_residual.ensures.1 in
    rw (sym c.self.view_is, p.1, p.2) (λ e. wants_memory c.self.inside.state c.self.inside.history.run c.args.event.pass c.args.event.act c.self.invariant (c.in_err-step.ensures.memory e))

pub returns-in_err-step-clause-load : goal.returns-in_err-step-clause-load
returns-in_err-step-clause-load c =
    let p = err_from_is_err_and c.from_residual.result c.from_residual.ensures.1 in
    rw (p.1, p.2) c.in_err-step.ensures.load

pub invariant_of-self-2 : goal.invariant_of-self-2
invariant_of-self-2 c =
    rw c.append_event-self-inside.ensures (goes_on c.self.inside.state c.step.new.self c.self.inside.history.run c.args.event c.self.invariant c.in_ok-step.ensures.ok)

pub returns-clause-ok : goal.returns-clause-ok
returns-clause-ok c =
    let next = legal_next c.self.inside.state c.step.new.self c.self.inside.history.run c.args.event c.self.invariant c.in_ok-step.ensures.ok in
    rw (sym c.self.view_is) (next.0, c.append_event-self-inside.ensures)
