-- What stays true in the loop of `next_command`: the lines that were passed over ask for nothing.
use Rattle.std.proofs.Common.{◌≡◌}
use Rattle.hot_scripts.specs.Parses.{commands_left}
use Rattle.hot_scripts.specs.Words.{bytes_left}
use Rattle.hot_scripts.proofs.script.Commands.next_command.Given as goal

abbrev pub invariant-loop-self : goal.invariant-loop-self
invariant-loop-self l = commands_left l.self ≡ commands_left l.fn.self

abbrev pub decreases-loop-self : goal.decreases-loop-self
decreases-loop-self l = bytes_left l.self.left
