-- What the functions of a run leave: what commands do to a pass, and what threads of scripts do.
use Rattle.std.specs.Prelude.{◌≡◌, ℕ, ◌++◌, All, List, [], ◌∷◌, length, map, flat_map, codes}
use Rattle.finite_map.specs.declared.Call.{Call}
use Rattle.rowex_core.specs.declared.event.Event.{Event}
use Rattle.rowex_table.specs.Seats.{TableView}
use Rattle.hot_index_calls.specs.Answers.{HaveMet}
use Rattle.hot_index.specs.Handles.{HandleView, handle_at}
use Rattle.hot_index_calls.specs.Passes.{PassView, IsNewPass, Owns}
use Rattle.hot_index_calls.specs.Traces.{HasMadeCallSteps, untold}
use Rattle.hot_scripts.specs.declared.command.Command.{Command}
use Rattle.hot_scripts.specs.Meaning.{line}
use Rattle.hot_scripts.specs.Parses.{script_commands}
use Rattle.script_runs.specs.declared.answer.Answer.{Answer}
use Rattle.script_runs.specs.declared.answer.Answer.TheVariants.{Reply, Full as Refused}
use Rattle.script_runs.specs.declared.answer.Done.{Done}
use Rattle.script_runs.specs.declared.together.Order.{Order}
use Rattle.script_runs.specs.declared.together.Results.{Results}
use Rattle.script_runs.specs.Answers.{Answered, called, refused, answered_command, lines_of_answer}
use Rattle.script_runs.specs.Scripts.{sections}
use Rattle.script_runs.specs.Told.{AreTold, IsAnswerTold}

-- the call with its answer, as a command with its answer; if the call was answered, its note has this place
abbrev pub answered_as : (call : Call) (answer : Answer) (place : ℕ) → Answered
answered_as call (Reply reply) place = called (record { place = place; call = call; reply = reply })
answered_as call (Refused full) place = refused call full

-- The pass has run this command. It was told the answer (`IsAnswerTold`), and its gate was told the steps that it made. The text `after`
-- is the text `before` with the lines of the answer behind it.
pub record HasAnsweredCommand {G : Type 0} (index : TableView) (becomes : G → Event → G → Type 0)
    (old : PassView × G) (command : Command) (new : PassView × G) (before after : List ℕ) : Type 0 where
  pub answer : Answered
  pub command_is : answered_command answer ≡ command
  pub told : IsAnswerTold index.layout old.0 answer new.0
  pub steps : HasMadeCallSteps index becomes old new
  pub text_is : after ≡ before ++ lines_of_answer answer

-- The pass has run these commands, one after another. It was told an answer to each, and its gate was told each step. The text has the
-- lines of these answers, and no others.
pub record HasRunCommands {G : Type 0} (index : TableView) (becomes : G → Event → G → Type 0)
    (old : PassView × G) (commands : List Command) (new : PassView × G) (text : List ℕ) : Type 0 where
  pub answers : List Answered
  pub commands_are : map answered_command answers ≡ commands
  pub text_is : text ≡ flat_map lines_of_answer answers
  pub told : AreTold index becomes old answers new

-- the pass belongs to the index, has this number, and is new
abbrev pub IsNewPassOf : (index : TableView) (number : ℕ) (pass : PassView) → Type 0
IsNewPassOf index number pass = Owns index pass × IsNewPass number pass

-- there are as many scripts as handles, and as many gates
abbrev pub AreAsManyAsHandles : {H C G : Type 0} → (handles : List H) (scripts : List C) (gates : List G) → Type 0
AreAsManyAsHandles handles scripts gates = (length scripts ≡ length handles) × (length gates ≡ length handles)

-- A thread with this handle and this gate has run these commands. `ran` has the handle after the run, at the same index, with the text of
-- the answers. It has the gate after the run, too.
abbrev pub IsDone : {G : Type 0} → (becomes : G → Event → G → Type 0) (handle : HandleView × G) (commands : List Command) (ran : Done × G) → Type 0
IsDone becomes handle commands ran =
    (ran.0.handle.index ≡ handle.0.index) ×
    HasRunCommands handle.0.index becomes (handle.0.pass, handle.1) commands (ran.0.handle.pass, ran.1) ran.0.text.items

-- the order of a thread, which is what the thread is to run, has this handle, this gate and these commands
abbrev pub IsOrderOf : {G : Type 0} → (handle : HandleView × G) (commands : List Command) (order : Order G) → Type 0
IsOrderOf handle commands order =
    (order.handle.value ≡ handle.0) × (order.gate.value ≡ handle.1) × (script_commands order.script.value ≡ commands)

-- a thread has run the commands of its order, with the handle and the gate of the order
abbrev pub HasRunItsOrder : {G : Type 0} → (becomes : G → Event → G → Type 0) (order : Order G) (ran : Done × G) → Type 0
HasRunItsOrder becomes order ran = IsDone becomes (order.handle.value, order.gate.value) (script_commands order.script.value) ran

-- `Holds` holds of three lists, place by place. They are equally long.
abbrev pub AllThree : {A B C : Type 0} → (Holds : A → B → C → Type 0) (first : List A) (second : List B) (third : List C) → Type 0
AllThree Holds [] [] [] = Unit {0}
AllThree Holds (one ∷ first) (two ∷ second) (three ∷ third) = Holds one two three × AllThree Holds first second third
AllThree Holds _ _ _ = ⊥

-- the handle, and the handles of these scripts that have run, are at the index
abbrev pub AreAt : (index : TableView) (handle : HandleView) (done : List Done) → Type 0
AreAt index handle done = (handle.index ≡ index) × All (λ ran. ran.handle.index ≡ index) done

-- The pass `old` meets the passes of the scripts that have run, `ran`, one after another, and becomes `new`. The scripts that have run
-- become `met`: as many, in the same order, with the same texts, and with passes that have met.
abbrev pub MeetInTurn : (index : TableView) (old : PassView) (ran : List Done) (new : PassView) (met : List Done) → Type 0
MeetInTurn index old [] new [] = new ≡ old
MeetInTurn index old (before ∷ befores) new (after ∷ afters) =
    (middle : PassView) × HaveMet index.layout old before.handle.pass middle after.handle.pass ×
    (after.text ≡ before.text) × MeetInTurn index middle befores new afters
MeetInTurn index old _ new _ = ⊥

-- The pass of the handle, which belongs to the handle's index, has run the commands of the last script. Then it has met the passes of the
-- files, `met`, again. The text has the answers to each file's script below a line with the file's number. Behind them, below the line
-- `last`, it has those to the last script.
pub record HasAnsweredLast (handle : HandleView) (met : List Done) (commands : List Command) (text : List ℕ) : Type 0 where
  pub after : PassView
  pub last : PassView
  pub again : List Done
  pub answers : List ℕ
  pub own : Owns handle.index handle.pass
  pub ran : HasRunCommands handle.index untold (handle.pass, tt) commands (after, tt) answers
  pub meet : MeetInTurn handle.index after met last again
  pub text_is : text ≡ sections 1 (map (λ one. one.text.items) again) ++ line (codes "last") ++ answers

-- The pass of the handle has met the passes of the scripts in files, `ran`, which had run. Then it has answered the last script, with these
-- commands. The results have the gates of the scripts in files, in their order, and all answers as texts.
pub record HaveAnswered {G : Type 0} (ran : List (Done × G)) (commands : List Command) (handle : HandleView) (results : Results G) : Type 0 where
  pub met : List Done
  pub after : PassView
  pub gates_are : results.gates.items ≡ map (λ one. one.1) ran
  pub meet : MeetInTurn handle.index handle.pass (map (λ one. one.0) ran) after met
  pub answered : HasAnsweredLast (handle_at handle.index after) met commands (flat_map (λ text. text.items) results.texts.items)
