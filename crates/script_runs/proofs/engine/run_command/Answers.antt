-- Why `run_command` meets its contract.
use Rattle.script_runs.proofs.Common.{on_ok_weaker, PassView}
use Rattle.script_runs.proofs.Progress.{HasAnsweredCommand-call}
use Rattle.script_runs.proofs.engine.run_command.Goals as goal

pub returns-in-Call-clause-answered : goal.returns-in-Call-clause-answered
returns-in-Call-clause-answered g c =
    let index = c.args.handle.now.index in
    let first : PassView × _ = (c.args.handle.now.pass, c.args.gate.now) in
    let last : PassView × _ = (c.make_call-answer.new.handle.pass, c.make_call-answer.new.gate) in
    let told = c.make_call-answer.ensures.told.pass in
    rw c.in-Call.is
    (on_ok_weaker c.push_answer.result (λ text. HasAnsweredCommand-call index g.G.Gate.becomes first last c.in-Call.call c.make_call-answer.result told.0
    c.args.output.now.text.items c.push_answer.new.text.items told.1 c.make_call-answer.ensures.steps text) c.push_answer.ensures)
