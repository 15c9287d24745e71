-- A parsed script, and the commands that are left of it.
use Rattle.std.specs.Prelude.{◌≡◌, ℕ, ◌+◌, ◌≤◌, List, [], ◌∷◌, length, map, filter_map, Option, Some, None, Result, Ok, Err}
use Rattle.hot_scripts.specs.declared.command.Command.{Command}
use Rattle.hot_scripts.specs.declared.fault.Reason.{Reason}
use Rattle.hot_scripts.specs.declared.fault.RunFault.{RunFault}
use Rattle.hot_scripts.specs.declared.fault.RunFault.TheVariants.{Script as Bad}
use Rattle.hot_scripts.specs.declared.script.Commands.{Commands}
use Rattle.hot_scripts.specs.declared.script.Script.{Script}
use Rattle.hot_scripts.specs.Grammar.{asked, first_bad, lines_of, reading_of, readings_of}
use Rattle.hot_scripts.specs.Words.{parts_left, bytes_left}

-- the commands that the good lines of the script ask for
abbrev pub script_commands : Script → List Command
script_commands script = filter_map asked (readings_of (lines_of script.text.items))

-- The parse returned what was parsed: a script with these commands, or the number of the first bad line and the reason. It returned no
-- other fault.
abbrev pub Parses : (result : Result Script RunFault) (parsed : Result (List Command) (ℕ × Reason)) → Type 0
Parses (Ok script) parsed = parsed ≡ Ok (script_commands script)
Parses (Err (Bad number reason)) parsed = parsed ≡ Err (number, reason)
Parses (Err _) parsed = ⊥

-- what each line that is left asks for
abbrev pub readings_left : Commands → List (Result (Option Command) Reason)
readings_left commands = map (reading_of commands.version) (parts_left 10 commands.left)

-- the commands that the lines that are left ask for
abbrev pub commands_left : Commands → List Command
commands_left commands = filter_map asked (readings_left commands)

-- `given` is the first of the commands `before`, and `after` are the others. If there are no commands, none is given.
abbrev pub GivesFirst : (before : List Command) (given : Option Command) (after : List Command) → Type 0
GivesFirst before None after = before ≡ []
GivesFirst before (Some command) after = before ≡ command ∷ after

-- The lines that are left of the script begin with its line `first`. They ask for all commands of the script, and have its first bad line,
-- if it has one. `small` bounds the number `first` and the bytes that are left, so that the number of each line fits 32 bits.
pub record IsOpening (script : List ℕ) (first : ℕ) (commands : Commands) : Type 0 where
  pub bad : first_bad 1 (readings_of (lines_of script)) ≡ first_bad first (readings_left commands)
  pub asks : filter_map asked (readings_of (lines_of script)) ≡ commands_left commands
  pub small : first + bytes_left commands.left ≤ length script + 2
