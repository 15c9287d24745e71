-- The answers to the commands of a script, and their lines.
use Rattle.std.specs.Prelude.{ℕ, List, Option, None, Some, codes}
use Rattle.finite_map.specs.declared.Call.{Call}
use Rattle.finite_map.specs.declared.Note.{Note}
use Rattle.finite_map.specs.declared.Scan.{Scan}
use Rattle.rowex_writing.specs.declared.plan.Full.{Full}
use Rattle.rowex_writing.specs.declared.plan.Full.TheVariants.{Nodes, Leaves}
use Rattle.hot_scripts.specs.declared.command.Command.{Command}
use Rattle.hot_scripts.specs.declared.command.Command.TheVariants.{Call as Asks, Scan as Lists}
use Rattle.hot_scripts.specs.declared.command.KeyRange.{KeyRange}
use Rattle.hot_scripts.specs.Meaning.{line, reply_text, scan_lines}
use Rattle.script_runs.specs.declared.answer.Answer.{Answer}
use Rattle.script_runs.specs.declared.answer.Answer.TheVariants.{Reply, Full as Refused}

-- the text of a refusal for want of records of this kind
abbrev pub full_text : Full → List ℕ
full_text Nodes = codes "full nodes"
full_text Leaves = codes "full leaves"

-- the text of an answer
abbrev pub answer_text : Answer → List ℕ
answer_text (Reply reply) = reply_text reply
answer_text (Refused full) = full_text full

-- A command with its answer. `called`: a call that was answered, as its note tells. `refused`: a call that lacked records of a kind.
-- `listed`: a scan with what it listed. Its `before` and `after` are the lengths of the pass's front at the scan's last load of the root
-- and at its end.
pub data Answered : Type 0 where
  called : (note : Note) → Answered
  refused : (call : Call) (lacks : Full) → Answered
  listed : (range : KeyRange) (scan : Scan) (before after : ℕ) → Answered

-- the command to which this is the answer
abbrev pub answered_command : Answered → Command
answered_command (called note) = Asks note.call
answered_command (refused call full) = Asks call
answered_command (listed range scan before after) = Lists range

-- the lines that the program prints for an answer
abbrev pub lines_of_answer : Answered → List ℕ
lines_of_answer (called note) = line (reply_text note.reply)
lines_of_answer (refused call full) = line (full_text full)
lines_of_answer (listed range scan before after) = scan_lines scan.pairs.items scan.more

-- the note of a call that was answered; none for a refused call or a scan
abbrev pub note_of : Answered → Option Note
note_of (called note) = Some note
note_of (refused call full) = None
note_of (listed range scan before after) = None

-- the command was not refused for want of records: it is an answered call or a scan
abbrev pub IsGranted : Answered → Type 0
IsGranted (called note) = Unit {0}
IsGranted (refused call full) = ⊥
IsGranted (listed range scan before after) = Unit {0}
