-- What a run of one script writes, and how the run may end.
use Rattle.std.specs.Prelude.{◌≡◌, ℕ, ◌≤◌, ◌++◌, List, [], ◌∷◌, length, map, All, Option, Ok, Err, IsOk}
use Rattle.finite_map.specs.declared.Change.{Change}
use Rattle.finite_map.specs.Maps.{Map, map_after, reply_of}
use Rattle.rowex_table.specs.Seats.{TableView}
use Rattle.hot_index_calls.specs.Traces.{untold}
use Rattle.hot_scripts.specs.declared.command.Command.{Command}
use Rattle.hot_scripts.specs.declared.fault.RunFault.{RunFault}
use Rattle.hot_scripts.specs.declared.fault.RunFault.TheVariants.{Write, Script}
use Rattle.hot_scripts.specs.Grammar.{commands_of, most_bytes}
use Rattle.hot_scripts.specs.Meaning.{line, reply_text, scan_text, script_meaning}
use Rattle.hot_scripts.specs.Streams.{IsReadFault, TakesAll}
use Rattle.script_runs.specs.Answers.{Answered, called, refused, listed, IsGranted, answered_command, full_text}
use Rattle.script_runs.specs.Told.{IsSizedFor, WasToldAnew}

-- The lines of these answers to commands, made one after the other, the first on the map `pairs`. A call's reply and a scan's pairs are
-- those of the map at that point. A refused call leaves the map. So all others are answered as if the refused ones weren't there.
abbrev pub text_told : (pairs : Map) (answers : List Answered) → List ℕ
text_told pairs [] = []
text_told pairs (called note ∷ answers) = line (reply_text (reply_of pairs note.call)) ++ text_told (map_after pairs note.call) answers
text_told pairs (refused call full ∷ answers) = line (full_text full) ++ text_told pairs answers
text_told pairs (listed range scan before after ∷ answers) = scan_text pairs range ++ text_told pairs answers

-- The text has the answers to the commands on a new index of one pass. It has `nodes` node records and one more for removals, and `leaves`
-- leaf records with room for the commands' keys. Each answer is that of the map that the earlier commands left. A command was refused only
-- if its call found no record of a kind free (`IsAnswerTold`). All steps of the calls stand in one run from the new table on.
pub record AreAnswered (nodes leaves : ℕ) (commands : List Command) (text : List ℕ) : Type 0 where
  pub index : TableView
  pub sized : IsSizedFor commands 1 nodes leaves index
  pub answers : List Answered
  pub front : List Change
  pub told : WasToldAnew index untold 0 (tt, tt) answers front
  pub commands_are : map answered_command answers ≡ commands
  pub text_is : text ≡ text_told [] answers

-- The script is not too long and has no bad line, and the text has the answers to its commands. If no command was refused, the text is what
-- the script means.
pub record IsAnsweredScript (nodes leaves : ℕ) (script text : List ℕ) : Type 0 where
  pub short : length script ≤ most_bytes
  pub commands : List Command
  pub parsed : commands_of script ≡ Ok commands
  pub run : AreAnswered nodes leaves commands text
  pub meaning : All IsGranted run.answers → script_meaning script ≡ Ok text

-- A run of one script may end by this fault. It is the script's first bad line, or a fault of its reads or of memory. If the script has no
-- bad line, it may be a failed write. The script is all that the reader had left: `old` and `new` are what it has left before and after, if
-- that is known.
abbrev pub MayEndBy : (old new : Option (List ℕ)) (fault : RunFault) → Type 0
MayEndBy old new (Script number reason) = (script : List ℕ) × TakesAll old new script × (script_meaning script ≡ Err (Script number reason))
MayEndBy old new Write = (script : List ℕ) × TakesAll old new script × IsOk (script_meaning script)
MayEndBy old new fault = IsReadFault old new fault
