-- What stays true in the loop of `run_script`.
use Rattle.script_runs.proofs.Common.{◌≡◌, ◌++◌, List, ℕ, length, PassView, commands_left, script_commands}
use Rattle.script_runs.specs.Progress.{HasRunCommands}
use Rattle.script_runs.proofs.engine.run_script.Given as goal

-- what answers the commands that are left completes the text
abbrev pub invariant-loop-command : goal.invariant-loop-command
invariant-loop-command g l = record {
  index : l.handle.index ≡ l.fn.handle.index;
  completes : (b : PassView × _) (rest : List ℕ) → HasRunCommands l.fn.handle.index g.G.Gate.becomes (l.handle.pass, l.gate) (commands_left l.commands) b rest
      → HasRunCommands l.fn.handle.index g.G.Gate.becomes (l.fn.handle.pass, l.fn.gate) (script_commands l.fn.script) b (l.output.text.items ++ rest);
}

abbrev pub decreases-loop-command : goal.decreases-loop-command
decreases-loop-command g l = length (commands_left l.commands)
