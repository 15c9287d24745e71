-- The commands of files, one file after another.
use Rattle.std.proofs.Common.{List, ◌++◌, Result, Ok, Err}
use Rattle.hot_scripts.specs.declared.command.Command.{Command}
use Rattle.hot_scripts.specs.declared.fault.RunFault.{RunFault}

-- these scripts before the others
abbrev pub with_scripts : List (List Command) → Result (List (List Command)) RunFault → Result (List (List Command)) RunFault
with_scripts front (Ok scripts) = Ok (front ++ scripts)
with_scripts front (Err fault) = Err fault
