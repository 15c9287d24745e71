-- The scripts of several files: their commands, or the first fault.
use Rattle.std.specs.Prelude.{◌≡◌, ℕ, ◌+◌, List, [], ◌∷◌, length, nat_lt, Result, Ok, Err, if◌then◌else◌}
use Rattle.hot_scripts.specs.declared.command.Command.{Command}
use Rattle.hot_scripts.specs.declared.fault.Reason.{Reason}
use Rattle.hot_scripts.specs.declared.fault.RunFault.{RunFault}
use Rattle.hot_scripts.specs.declared.fault.RunFault.TheVariants.{Memory, FileScript, Large}
use Rattle.hot_scripts.specs.Grammar.{commands_of, most_bytes}

-- the commands of the file of this number; if a line is bad, the run's fault, which has the file's number, the line's and the reason
abbrev pub in_file : (file : ℕ) (parsed : Result (List Command) (ℕ × Reason)) → Result (List Command) RunFault
in_file file (Ok commands) = Ok commands
in_file file (Err (number, reason)) = Err (FileScript file number reason)

-- The commands of the file that has this number and these bytes. If the file is too long, the fault is `Large`. If it has a bad line, the
-- fault is the first such line, with the file's number.
abbrev pub commands_of_file : (file : ℕ) (script : List ℕ) → Result (List Command) RunFault
commands_of_file file script = if nat_lt most_bytes (length script) then Err Large else in_file file (commands_of script)

-- the commands of one file before those of others; if either is a fault, that fault, and that of the one file if both are
abbrev pub both_or_fault : (one : Result (List Command) RunFault) (others : Result (List (List Command)) RunFault) →
    Result (List (List Command)) RunFault
both_or_fault (Err fault) others = Err fault
both_or_fault (Ok commands) (Err fault) = Err fault
both_or_fault (Ok commands) (Ok others) = Ok (commands ∷ others)

-- The commands of each file, or the fault of the first file that has one. The files are numbered from `first` on.
abbrev pub commands_of_files : (first : ℕ) (files : List (List ℕ)) → Result (List (List Command)) RunFault
commands_of_files first [] = Ok []
commands_of_files first (file ∷ files) = both_or_fault (commands_of_file first file) (commands_of_files (first + 1) files)

-- What was parsed is right: `view` of it is what the script means, or its fault is the script's. If memory was refused, nothing is said.
abbrev pub IsParsed : {A B : Type 0} → (view : A → B) (parsed : Result A RunFault) (script : Result B RunFault) → Type 0
IsParsed view (Ok parsed) script = script ≡ Ok (view parsed)
IsParsed view (Err Memory) script = Unit {0}
IsParsed view (Err fault) script = script ≡ Err fault
