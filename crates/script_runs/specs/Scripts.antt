-- Scripts that run on one index, each with a pass of its own: what answers they may have, and how such a run may end.
use Rattle.std.specs.Prelude.{◌≡◌, ◌⊎◌, ℕ, ◌+◌, ◌≤◌, ◌++◌, List, [], ◌∷◌, length, map, filter_map, flat_map, take, All, Option, Ok, Err, IsOk, codes}
use Rattle.finite_map.specs.declared.Change.{Change}
use Rattle.finite_map.specs.declared.Note.{Note}
use Rattle.finite_map.specs.Calls.{LegalCalls, place_after}
use Rattle.finite_map.specs.Fronts.{BeginsWith}
use Rattle.finite_map.specs.Scans.{IsLawfulScan}
use Rattle.finite_map.specs.Weaves.{AllLegal}
use Rattle.rowex_core.specs.declared.event.Event.{Event}
use Rattle.rowex_table.specs.Seats.{TableView}
use Rattle.hot_index_calls.specs.Answers.{MayLack}
use Rattle.hot_index_calls.specs.Traces.{untold}
use Rattle.hot_scripts.specs.declared.command.Command.{Command}
use Rattle.hot_scripts.specs.declared.fault.RunFault.{RunFault}
use Rattle.hot_scripts.specs.declared.fault.RunFault.TheVariants.{Memory}
use Rattle.hot_scripts.specs.Grammar.{commands_of, most_bytes}
use Rattle.hot_scripts.specs.InFiles.{commands_of_files}
use Rattle.hot_scripts.specs.Meaning.{line, with_number}
use Rattle.script_runs.specs.Answers.{Answered, called, refused, listed, answered_command, lines_of_answer, note_of}
use Rattle.script_runs.specs.Runs.{MayEndBy}
use Rattle.script_runs.specs.Told.{IsOfSize, WasTold, WasToldAnew}

-- A script that has run: the answers to its commands, in order, and the changes that its pass has seen by the end.
pub record RanScript : Type 0 where
  pub answers : List Answered
  pub front : List Change

-- the commands of the script that has run
abbrev pub commands_in : RanScript → List Command
commands_in ran = map answered_command ran.answers

-- the notes of the answered calls of the script that has run
abbrev pub notes_in : RanScript → List Note
notes_in ran = filter_map note_of ran.answers

-- the lines of the answers to the script that has run
abbrev pub text_in : RanScript → List ℕ
text_in ran = flat_map lines_of_answer ran.answers

-- The answers stand in the front in their order, none before the place `low`. An answered call stands at the place of its note, and later
-- answers behind its change. A scan is lawful while the front grew from its length `before` to its length `after`. Earlier answers stand no
-- later than `before`, and later ones no earlier than `after`. A refused call has no place, and is one that may lack such records.
abbrev pub StandFrom : (front : List Change) (low : ℕ) (answers : List Answered) → Type 0
StandFrom front low [] = Unit {0}
StandFrom front low (called note ∷ rest) = (low ≤ note.place) × StandFrom front (place_after note) rest
StandFrom front low (refused call full ∷ rest) = MayLack call full × StandFrom front low rest
StandFrom front low (listed range scan before after ∷ rest) =
    (low ≤ before) × (before ≤ after) × (after ≤ length front)
    × IsLawfulScan (take before front) (take after front) range.from range.upto range.limit scan
    × StandFrom front after rest

-- The script has run with the pass of this number. The pass's calls are legal in its front, and all commands stand there in order, from the
-- place `low` on.
pub record IsLegalRun (pass low : ℕ) (ran : RanScript) : Type 0 where
  pub legal : LegalCalls ran.front pass (notes_in ran)
  pub stand : StandFrom ran.front low ran.answers

-- `Holds` holds of each item and its number. The items are numbered from `first` on.
abbrev pub AllFrom : {A : Type 0} → (first : ℕ) (Holds : ℕ → A → Type 0) (items : List A) → Type 0
AllFrom first Holds [] = Unit {0}
AllFrom first Holds (item ∷ items) = Holds first item × AllFrom (first + 1) Holds items

-- `Holds` holds of two lists of one length, place by place, and of the number of the place. The places are numbered from `first` on.
abbrev pub AllTwoFrom : {A B : Type 0} → (first : ℕ) (Holds : ℕ → A → B → Type 0) (one : List A) (other : List B) → Type 0
AllTwoFrom first Holds [] [] = Unit {0}
AllTwoFrom first Holds (item ∷ one) (partner ∷ other) = Holds first item partner × AllTwoFrom (first + 1) Holds one other
AllTwoFrom first Holds _ _ = ⊥

-- The notes of each script with the number of its pass. The passes are numbered from `first` on.
abbrev pub by_pass : (first : ℕ) (scripts : List RanScript) → List (ℕ × List Note)
by_pass first [] = []
by_pass first (ran ∷ more) = (first, notes_in ran) ∷ by_pass (first + 1) more

-- The answers to the scripts in files, each behind a line with the number of its file. The files are numbered from `first` on.
abbrev pub sections : (first : ℕ) (texts : List (List ℕ)) → List ℕ
sections first [] = []
sections first (text ∷ texts) = line (with_number (codes "file ") first) ++ text ++ sections (first + 1) texts

-- The text has the answers to the scripts of files, which run at the same time, and then those to the last script. Each script has a pass
-- of its own. The passes are numbered in this order, from 0 on.
pub record LawfulAnswers (scripts : List (List Command)) (last : List Command) (text : List ℕ) : Type 0 where
  pub files_ran : List RanScript
  pub last_ran : RanScript
  -- what all passes had seen when they met, before the last script's first command
  pub met : List Change
  pub commands : map commands_in files_ran ≡ scripts
  pub last_commands : commands_in last_ran ≡ last
  -- each file's calls are legal in what its own pass had seen
  pub each : AllFrom 0 (λ pass ran. IsLegalRun pass 0 ran) files_ran
  -- the last script had seen all that the files' passes had seen, and its commands stand after that
  pub begins : All (λ ran. BeginsWith met ran.front) files_ran
  pub last_begins : BeginsWith last_ran.front met
  pub last_legal : IsLegalRun (length scripts) (length met) last_ran
  -- all calls of all scripts are legal in one front, whose changes are all theirs
  pub shared : AllLegal last_ran.front (by_pass 0 (files_ran ++ last_ran ∷ []))
  pub makers : All (λ change. change.pass ≤ length scripts) last_ran.front
  pub text_is : text ≡ sections 1 (map text_in files_ran) ++ line (codes "last") ++ text_in last_ran

-- The text has lawful answers, given on one index with `nodes` node records and one more for removals, and `leaves` leaf records, all long.
-- Each file has a new pass, and its gate was told the steps of the pass's calls. `gates` has each gate as it was before and after. The last
-- script's pass begins where all passes have met. A command was refused only if its call found no record of a kind free (`IsAnswerTold`).
pub record AreAllAnswered {G : Type 0} (nodes leaves : ℕ) (becomes : G → Event → G → Type 0) (gates : List (G × G))
    (scripts : List (List Command)) (last : List Command) (text : List ℕ) : Type 0 where
  pub lawful : LawfulAnswers scripts last text
  pub index : TableView
  pub sized : IsOfSize (length scripts + 1) nodes leaves index
  pub files_told : AllTwoFrom 0 (λ pass gate ran. WasToldAnew index becomes pass gate ran.answers ran.front) gates lawful.files_ran
  pub last_told : WasTold index untold (length scripts) (tt, tt) lawful.met lawful.last_ran.answers lawful.last_ran.front

-- What a run of several scripts writes. The scripts in files and the last script have no bad lines. The text has lawful answers to their
-- commands, given on one index. Each file's gate, in `gates` as it was before and after, was told the steps of the file's calls.
pub record LawfulScripts {G : Type 0} (nodes leaves : ℕ) (becomes : G → Event → G → Type 0) (gates : List (G × G))
    (files : List (List ℕ)) (script text : List ℕ) : Type 0 where
  pub scripts : List (List Command)
  pub last : List Command
  pub files_are : commands_of_files 1 files ≡ Ok scripts
  pub short : length script ≤ most_bytes
  pub last_is : commands_of script ≡ Ok last
  pub answers : AreAllAnswered nodes leaves becomes gates scripts last text

-- A run of several scripts may end by this fault. It may always be want of memory. Else it is the fault of the first file that has one. If
-- no file has one, it is a fault by which a run of the last script alone may end.
abbrev pub MayEndScriptsBy : (files : List (List ℕ)) (old new : Option (List ℕ)) (fault : RunFault) → Type 0
MayEndScriptsBy files old new Memory = Unit {0}
MayEndScriptsBy files old new fault = (commands_of_files 1 files ≡ Err fault) ⊎ (IsOk (commands_of_files 1 files) × MayEndBy old new fault)
