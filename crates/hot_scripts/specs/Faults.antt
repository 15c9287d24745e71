-- The line that says why a run ended.
use Rattle.std.specs.Prelude.{ℕ, ◌++◌, List, codes, decimal}
use Rattle.hot_scripts.specs.declared.fault.Reason.{Reason}
use Rattle.hot_scripts.specs.declared.fault.Reason.TheVariants.{Command, Key, Value, Limit}
use Rattle.hot_scripts.specs.declared.fault.RunFault.{RunFault}
use Rattle.hot_scripts.specs.declared.fault.RunFault.TheVariants.{Read, Write, Memory, Script, FileScript, Large}

-- the text of a reason for which a line is bad
abbrev pub reason_text : Reason → List ℕ
reason_text Command = codes "bad command"
reason_text Key = codes "bad key"
reason_text Value = codes "bad value"
reason_text Limit = codes "bad limit"

-- the text of a fault of a run
abbrev pub run_fault_text : RunFault → List ℕ
run_fault_text Read = codes "read failed"
run_fault_text Write = codes "write failed"
run_fault_text Memory = codes "out of memory"
run_fault_text (Script number reason) = codes "line " ++ decimal number ++ codes ": " ++ reason_text reason
run_fault_text (FileScript file number reason) = codes "file " ++ decimal file ++ codes ": line " ++ decimal number ++ codes ": " ++ reason_text reason
run_fault_text Large = codes "script too long"
