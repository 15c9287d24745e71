-- Executions of an index: runs of which each call ends as its contract says.
use Rattle.std.specs.Prelude.{◌≡◌, ◌⊎◌, ℕ, suc, ◌<◌, ◌≤◌, List, [], ◌∷◌, None, Some, map}
use Rattle.finite_map.specs.declared.Call.{Call}
use Rattle.finite_map.specs.declared.Call.TheVariants.{Insert}
use Rattle.finite_map.specs.declared.Note.{Note}
use Rattle.finite_map.specs.declared.Reply.{Reply}
use Rattle.finite_map.specs.Calls.{LegalCalls}
use Rattle.record_words.specs.declared.layout.Layout.{Layout}
use Rattle.rowex_core.specs.declared.known.Known.{Known}
use Rattle.rowex_core.specs.Events.{IsLoad, loaded_tree}
use Rattle.rowex_table.specs.Rule.{loader_of, opening_of}
use Rattle.rowex_table.specs.Seats.{SeatView}
use Rattle.versions.specs.Told.{added_notes, items_of}
use Rattle.rowex_writing.specs.declared.attempts.TryFault.{TryFault}
use Rattle.hot_index_calls.specs.Answers.{IsNoted, IsRefusedFor, MayRefuse}
use Rattle.hot_index_calls.specs.Many.{AreNoted}
use Rattle.hot_index_calls.specs.Passes.{PassView, pass_of}
use Rattle.linearizability.specs.Configurations.{Continues, Happening, IsCallTurn, IsNewIndex, Configuration, Pending, invokes, refuses, responds, shows, steps}

-- The call of the pass of this number is pending at this time, and was invoked no later. The seat `start` knows what the pass knew when it
-- invoked the call. The seat `end` knows what the pass knows at this time.
pub record IsReturning (at : ℕ → Configuration) (number time : ℕ) (call : Pending) (start end : SeatView) : Type 0 where
  pub pending : (at time).pending number ≡ Some call
  pub before : start.known ≡ (at call.since).known number
  pub now : end.known ≡ (at time).known number
  pub pass : end.known.pass ≡ number
  pub later : call.since ≤ time

-- The pending call asked one call of the map, which was answered. `notes` is the one note of that call. The pass was `old` before, and is
-- `new`.
pub record IsAnswered (layout : Layout) (call : Pending) (old new : PassView) (notes : List Note) : Type 0 where
  pub asked : Call
  pub reply : Reply
  pub calls : call.calls ≡ asked ∷ []
  pub noted : IsNoted layout old new asked reply
  pub notes_are : notes ≡ record { place = noted.place; call = asked; reply = reply } ∷ []

-- The pending call asked look-ups of the map, which were answered. `notes` has a note of each, in some order. The pass was `old` before,
-- and is `new`.
pub record HasAnsweredMany (layout : Layout) (call : Pending) (old new : PassView) (notes : List Note) : Type 0 where
  pub asked : List (Call × Reply)
  pub calls : map (λ pair. pair.0) asked ≡ call.calls
  pub noted : AreNoted layout old new asked
  pub notes_are : notes ≡ noted.added

-- The pending call asked nothing of the map, and added no note. All notes of the pass are legal. The contracts of scans say so
-- (`IsScannedBy`, `IsListedBy`), and those of collections and counts (`IsUnnoted`).
pub record IsQuiet (call : Pending) (old new : PassView) (notes : List Note) : Type 0 where
  pub calls : call.calls ≡ []
  pub same : new.notes ≡ old.notes
  pub legal : LegalCalls new.front new.number new.notes
  pub notes_are : notes ≡ []

-- the insertions of the pairs that a table with these words was loaded with, in the order of their keys
abbrev pub insertions : (layout : Layout) (words : List ℕ) → List Call
insertions layout words = map (λ item. Insert item.key item.value) (items_of (loaded_tree layout words))

-- The notes of the insertions of the pairs that a table with these words was loaded with. Their places are 0, 1 and so on.
abbrev pub insertion_notes : (layout : Layout) (words : List ℕ) → List Note
insertion_notes layout words = added_notes 0 (items_of (loaded_tree layout words))

-- The call was the bulk load with which the table was made (`IsLoaderSeat`). Its pass is pass 0, which was new before. The call asked for
-- the insertions of the loaded pairs, and `notes` are theirs.
pub record HasBulkLoaded (layout : Layout) (calls : List Call) (before later : Known) (notes : List Note) : Type 0 where
  pub words : List ℕ
  pub load : IsLoad layout words
  pub new : before ≡ opening_of 0
  pub loader : later ≡ loader_of layout words
  pub calls_are : calls ≡ insertions layout words
  pub notes_are : notes ≡ insertion_notes layout words

-- The pass's call returns at this time with these notes, as its contract says of two seats. The seats know what the pass knew at the
-- invocation and knows now. The call was answered as one call or as look-ups, asked nothing, or was the bulk load.
abbrev pub HasReturned : (layout : Layout) (at : ℕ → Configuration) (pass time : ℕ) (call : Pending) (notes : List Note) → Type 0
HasReturned layout at pass time call notes =
    (start : SeatView) × (end : SeatView) × IsReturning at pass time call start end ×
    (IsAnswered layout call (pass_of start) (pass_of end) notes ⊎
    (HasAnsweredMany layout call (pass_of start) (pass_of end) notes ⊎
    (IsQuiet call (pass_of start) (pass_of end) notes ⊎ HasBulkLoaded layout call.calls start.known end.known notes)))

-- The pass's call, which asked one call of the map, is refused at this time, as its contract says. The fault is one that this call may have
-- (`MayRefuse`).
abbrev pub HasBeenRefused : (layout : Layout) (at : ℕ → Configuration) (pass time : ℕ) (call : Pending) → Type 0
HasBeenRefused layout at pass time call =
    (start : SeatView) × (end : SeatView) × (asked : Call) × (fault : TryFault) ×
    IsReturning at pass time call start end × (call.calls ≡ asked ∷ []) ×
    IsRefusedFor layout asked (pass_of start) (pass_of end) fault × MayRefuse asked fault

-- What happens at this time of an execution leads to the next time. A step, a showing and an invocation do so as in a run (`Continues`). A
-- call that responds or is refused does so as its contract says, and is then no longer pending.
abbrev pub LeadsOn : (layout : Layout) (at : ℕ → Configuration) (time : ℕ) (happening : Happening) → Type 0
LeadsOn layout at time (steps pass act notes) = Continues layout at time (steps pass act notes)
LeadsOn layout at time (shows pass front) = Continues layout at time (shows pass front)
LeadsOn layout at time (invokes pass calls) = Continues layout at time (invokes pass calls)
LeadsOn layout at time (responds pass notes) =
    (call : Pending) × HasReturned layout at pass time call notes × IsCallTurn layout (at time) (at (suc time)) pass None
LeadsOn layout at time (refuses pass) =
    (call : Pending) × HasBeenRefused layout at pass time call × IsCallTurn layout (at time) (at (suc time)) pass None

-- An execution: the index is new at time 0, and what happens at each time before `last` leads to the next time. Each call ends as its
-- contract says.
pub record IsExecution (layout : Layout) (last : ℕ) (at : ℕ → Configuration) (happens : ℕ → Happening) : Type 0 where
  pub new : IsNewIndex layout (at 0)
  pub next : (time : ℕ) → time < last → LeadsOn layout at time (happens time)
