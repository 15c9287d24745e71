-- Why `run_one` meets its contract.
use Rattle.std.proofs.Common.{arith}
use Rattle.std.proofs.lemmas.Result.{on_ok_weaker}
use Rattle.hot_scripts.specs.Parses.{script_commands}
use Rattle.script_runs.proofs.Answering.{IsAnsweredScript-script}
use Rattle.hot_run.proofs.one.run_one.Goals as goal

pub returns-clause-ok : goal.returns-clause-ok
returns-clause-ok g c =
    let script = c.in_ok-bytes.bytes.items in
    let commands = script_commands c.in_ok-script.script in
    let text = c.in_ok-text.text.items in
    let answered = IsAnsweredScript-script c.args.nodes c.args.leaves script commands text (omega (arith, c.in_ok-bytes.ensures.short)) c.in_ok-script.ensures c.in_ok-text.ensures in
    on_ok_weaker c.write_answers.result (λ written. (script, text, c.in_ok-bytes.ensures.whole, answered, rw c.deref.ensures.value at written)) c.write_answers.ensures.ok
