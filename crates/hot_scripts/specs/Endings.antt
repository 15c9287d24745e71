-- What the program writes where it ends without answers, and its exit status.
use Rattle.std.specs.Prelude.{ℕ, List, codes}
use Rattle.clap.specs.declared.error.kind.ErrorKind.{ErrorKind}
use Rattle.clap.specs.declared.error.kind.ErrorKind.TheVariants.{OutOfMemory}
use Rattle.hot_scripts.specs.declared.fault.RunFault.TheVariants.{Read, Write, Memory}
use Rattle.hot_scripts.specs.Faults.{run_fault_text}
use Rattle.hot_scripts.specs.declared.ending.Ending.{Ending}
use Rattle.hot_scripts.specs.declared.ending.Ending.TheVariants.{Usage, Fault}

-- the line, without its end, that the program writes to standard error for this ending
abbrev pub ending_text : Ending → List ℕ
ending_text Usage = codes "usage: hot-run [--nodes N] [--leaves L] [FILE]..."
ending_text (Fault fault) = run_fault_text fault

-- the ending for an error that the parser of the command line finds: the fault of memory if memory was refused, else wrong usage
abbrev pub ending_of : ErrorKind → Ending
ending_of OutOfMemory = Fault Memory
ending_of _ = Usage

-- The program's exit status: 1 if reads, writes or memory failed, and 2 if what it was given is wrong.
abbrev pub status_of : Ending → ℕ
status_of (Fault Read) = 1
status_of (Fault Write) = 1
status_of (Fault Memory) = 1
status_of _ = 2
