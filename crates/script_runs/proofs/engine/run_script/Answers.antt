-- Why `run_script` meets its contract.
use Rattle.script_runs.proofs.Common.{◌≡◌, ◌∷◌, [], ◌∙◌, append_assoc, append-nil, rules, PassView, commands_left}
use Rattle.script_runs.proofs.Progress.{HasRunCommands-none, HasRunCommands-more}
use Rattle.script_runs.proofs.engine.run_script.Goals as goal

pub loop-command-preserved : goal.loop-command-preserved
loop-command-preserved g c =
    let left : commands_left c.loop-command.commands ≡ c.in-Some.command ∷ commands_left c.next_command.new.self = search rules in
    let at = c.loop-command.invariant.index in
    record {
      index = c.run_command.ensures.index ∙ at;
      completes = λ b rest others.
          let more = HasRunCommands-more c.args.handle.now.index g.G.Gate.becomes _ _ b _ rest others c.loop-command.handle.index at c.in-Some.command _ _
          c.in_ok-run_command.ensures.answered in
          rw (more.1, append_assoc) (c.loop-command.invariant.completes b _ (rw left more.2));
    }

pub returns-clause-ran : goal.returns-clause-ran
returns-clause-ran g c =
    let none : commands_left c.loop-command.commands ≡ [] = search rules in
    let here : PassView × _ = (c.loop-command.handle.pass, c.loop-command.gate) in
    rw append-nil at (c.loop-command.invariant.completes here [] (rw none (HasRunCommands-none c.args.handle.now.index g.G.Gate.becomes here)))
