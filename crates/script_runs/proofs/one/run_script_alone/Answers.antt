-- Why `run_script_alone` meets its contract.
use Rattle.script_runs.proofs.Common.{IfOk-weaker, script_commands}
use Rattle.script_runs.proofs.Progress.{HasRunCommands-untold}
use Rattle.script_runs.proofs.one.run_script_alone.Goals as goal

pub returns : goal.returns
returns c =
    IfOk-weaker c.run_script.result _ _
    (λ text ran. (c.run_script.new.handle.pass, HasRunCommands-untold c.args.index.now _ _ _ (script_commands c.args.script.now) text.items (rw c.new-handle.ensures at ran)))
    c.run_script.ensures.ran
