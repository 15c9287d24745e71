-- What a pass is told by the commands of a script, and what its gate is told by their steps.
use Rattle.std.specs.Prelude.{◌≡◌, ℕ, ◌<◌, ◌≤◌, ◌++◌, All, List, [], ◌∷◌, length}
use Rattle.finite_map.specs.declared.Change.{Change}
use Rattle.finite_map.specs.declared.Note.{Note}
use Rattle.finite_map.specs.Calls.{LegalCalls}
use Rattle.finite_map.specs.Fronts.{BeginsWith}
use Rattle.record_words.specs.declared.layout.Layout.{Layout}
use Rattle.record_words.specs.Layout.{leaf_size}
use Rattle.record_words.specs.Leaf.{words_for}
use Rattle.rowex_core.specs.declared.event.Event.{Event}
use Rattle.rowex_table.specs.Runs.{IsTold}
use Rattle.rowex_table.specs.Seats.{TableView}
use Rattle.hot_index_calls.specs.Answers.{IsRefusedFor, IsScanned, MayLack, fault_of, range_from}
use Rattle.hot_index_calls.specs.Passes.{PassView, AreByPasses, IsNewPass, Owns}
use Rattle.hot_index_calls.specs.Traces.{HasMadeCallSteps}
use Rattle.hot_index.specs.Kept.{with_one_kept}
use Rattle.hot_scripts.specs.declared.command.Command.{Command}
use Rattle.hot_scripts.specs.Grammar.{called_key}
use Rattle.script_runs.specs.Answers.{Answered, called, refused, listed}

-- The pass `old` has made a call, which was answered with this note, and is `new`. The note is its only new one, and stands behind all
-- changes that the pass had seen before. The pass's front has only grown, by changes of the index's passes, and all its notes are legal
-- there.
pub record IsCalled (layout : Layout) (old new : PassView) (note : Note) : Type 0 where
  pub number : new.number ≡ old.number
  pub front : BeginsWith new.front old.front
  pub notes : new.notes ≡ old.notes ++ note ∷ []
  pub low : length old.front ≤ note.place
  pub legal : LegalCalls new.front new.number new.notes
  pub makers : AreByPasses layout new.front

-- The pass `old` was told this answer to a command, and is `new`. `called`: the call was answered with this note. `refused`: the call, one
-- that may lack such records, changed nothing. It was refused since it found no node record free, or no leaf record with room for its key.
-- `listed`: the scan was answered. It is lawful while the pass's front grew from its length `before` to its length `after`. These are its
-- lengths at the scan's last load of the root and at its end.
abbrev pub IsAnswerTold : (layout : Layout) (old : PassView) (answer : Answered) (new : PassView) → Type 0
IsAnswerTold layout old (called note) new = IsCalled layout old new note
IsAnswerTold layout old (refused call full) new = MayLack call full × IsRefusedFor layout call old new (fault_of full)
IsAnswerTold layout old (listed range scan before after) new =
    IsScanned layout old new (range_from range.from range.upto range.limit) scan × (before ≡ length new.fresh.front) × (after ≡ length new.front)

-- The pass was told these answers, one after another. It has made the steps of each command, and no other. Its gate was told each step, in
-- order, and nothing else.
abbrev pub AreTold : {G : Type 0} → (index : TableView) (becomes : G → Event → G → Type 0) (old : PassView × G) (answers : List Answered)
    (new : PassView × G) → Type 0
AreTold index becomes old [] new = new ≡ old
AreTold {G = G} index becomes old (answer ∷ answers) new =
    (middle : PassView × G) × IsAnswerTold index.layout old.0 answer middle.0 × HasMadeCallSteps index becomes old middle ×
    AreTold index becomes middle answers new

-- `gate` is a gate as it was before and after. Meanwhile it was told steps of the pass, one after another, and nothing else.
abbrev pub IsToldOf : {G : Type 0} → (becomes : G → Event → G → Type 0) (pass : ℕ) (gate : G × G) → Type 0
IsToldOf becomes pass gate = (events : List Event) × All (λ event. event.pass ≡ pass) events × IsTold becomes events gate.0 gate.1

-- The index has so many passes, `nodes` node records and one more, kept for removals, and `leaves` leaf records. Each leaf record has room
-- for any key.
pub record IsOfSize (passes nodes leaves : ℕ) (index : TableView) : Type 0 where
  pub passes_are : index.layout.passes ≡ passes
  pub nodes_are : index.layout.nodes ≡ with_one_kept nodes
  pub leaves_are : index.layout.leaves ≡ leaves
  pub all_long : index.layout.long_from ≡ 0

-- each leaf record has room for the key of the call that the command makes; a scan counts as a call of the empty key
abbrev pub HasRoomFor : (layout : Layout) (command : Command) → Type 0
HasRoomFor layout command = (leaf : ℕ) → leaf < layout.leaves → words_for (length (called_key command)) ≤ leaf_size layout leaf

-- The index has so many passes, `nodes` node records and one more, kept for removals, and `leaves` leaf records. Each leaf record has room
-- for the key of each of these commands.
pub record IsSizedFor (commands : List Command) (passes nodes leaves : ℕ) (index : TableView) : Type 0 where
  pub passes_are : index.layout.passes ≡ passes
  pub nodes_are : index.layout.nodes ≡ with_one_kept nodes
  pub leaves_are : index.layout.leaves ≡ leaves
  pub room : All (HasRoomFor index.layout) commands

-- The pass of this number of the index was told the answers, one after another. It had seen the changes `before`, and has seen the changes
-- `after` then. `gate` is its gate as it was before and after, which was told each step, in order, and nothing else.
pub record WasTold {G : Type 0} (index : TableView) (becomes : G → Event → G → Type 0) (pass : ℕ) (gate : G × G)
    (before : List Change) (answers : List Answered) (after : List Change) : Type 0 where
  pub first : PassView
  pub last : PassView
  pub own : Owns index first
  pub number : first.number ≡ pass
  pub begins : first.front ≡ before
  pub ends : last.front ≡ after
  pub told : AreTold index becomes (first, gate.0) answers (last, gate.1)

-- A new pass of the index, of this number, was told the answers, and has then seen the changes `after`. `gate` is its gate as it was before
-- and after. The pass had seen no change and knew no step of any pass before. So the steps of its calls stand in one run from the new table
-- on.
pub record WasToldAnew {G : Type 0} (index : TableView) (becomes : G → Event → G → Type 0) (pass : ℕ) (gate : G × G)
    (answers : List Answered) (after : List Change) : Type 0 where
  pub told : WasTold index becomes pass gate [] answers after
  pub new : IsNewPass pass told.first
