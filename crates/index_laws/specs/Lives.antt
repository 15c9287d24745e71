-- The answered calls of passes, as the contracts of these calls say, and the one history that passes share.
use Rattle.std.specs.Prelude.{◌≡◌, ◌≢◌, ℕ, All, List, [], ◌∷◌, ◌++◌, map}
use Rattle.finite_map.specs.declared.Call.{Call}
use Rattle.finite_map.specs.declared.Call.TheVariants.{Insert}
use Rattle.finite_map.specs.declared.Change.{Change}
use Rattle.finite_map.specs.declared.Note.{Note}
use Rattle.finite_map.specs.declared.Reply.{Reply}
use Rattle.finite_map.specs.declared.Reply.TheVariants.{Inserted}
use Rattle.finite_map.specs.Calls.{LegalCalls}
use Rattle.finite_map.specs.Weaves.{Event, LegalHistory, answered, notes_of, weave}
use Rattle.plain_index.specs.Orders.{AreWoven, calls_in}
use Rattle.record_words.specs.declared.layout.Layout.{Layout}
use Rattle.hot_index_calls.specs.Answers.{GoesOn, IsNoted, IsUnnoted}
use Rattle.hot_index_calls.specs.Many.{AreNoted}
use Rattle.hot_index_calls.specs.Passes.{IsNewPass, PassView, pass_of}
use Rattle.rowex_core.specs.Events.{IsLoad, loaded_tree}
use Rattle.rowex_table.specs.Rule.{loader_of}
use Rattle.rowex_table.specs.Seats.{SeatView}
use Rattle.versions.specs.Told.{items_of}

-- The calls of a pass that were answered since it was new, with their replies. A new pass has none, and pass 0 of a loaded table has the
-- insertions of the table's pairs. An answered call adds itself, and a call of many look-ups adds each, in the order of their notes. A
-- refused call, a round of collection, a meeting, a followed stamp (`IsUnnoted`) and a scan (`IsScannedBy`, `IsListedBy`) add none. Nor does
-- a stamp that is made (`HasStamped`), or a look at what is uncommitted (`KnowsUncommitted`).
pub data HasLived : Layout → List (Call × Reply) → PassView → Type 0 where
  new : {layout : Layout} {number : ℕ} {pass : PassView} → IsNewPass number pass → HasLived layout [] pass
  loaded : {layout : Layout} {words : List ℕ} {seat : SeatView} → IsLoad layout words → seat.known ≡ loader_of layout words →
      HasLived layout (map (λ item. (Insert item.key item.value, Inserted)) (items_of (loaded_tree layout words))) (pass_of seat)
  called : {layout : Layout} {calls : List (Call × Reply)} {before after : PassView} {call : Call} {reply : Reply} →
      HasLived layout calls before → IsNoted layout before after call reply → HasLived layout (calls ++ (call, reply) ∷ []) after
  looked_up : {layout : Layout} {calls asked : List (Call × Reply)} {before after : PassView} →
      HasLived layout calls before → (noted : AreNoted layout before after asked) →
      HasLived layout (calls ++ map (λ note. (note.call, note.reply)) noted.added) after
  went_on : {layout : Layout} {calls : List (Call × Reply)} {before after : PassView} →
      HasLived layout calls before → IsUnnoted layout before after → HasLived layout calls after
  scanned : {layout : Layout} {calls : List (Call × Reply)} {before after : PassView} →
      HasLived layout calls before → GoesOn layout before after → after.notes ≡ before.notes →
      LegalCalls after.front after.number after.notes → HasLived layout calls after
  rested : {layout : Layout} {calls : List (Call × Reply)} {before after : PassView} →
      HasLived layout calls before → after.number ≡ before.number → after.front ≡ before.front → after.notes ≡ before.notes → HasLived layout calls after

-- the answered calls of a pass since it was new, with their replies (`HasLived`), and the pass now
abbrev pub PassLife : Type 0
PassLife = List (Call × Reply) × PassView

-- These lives are of passes with different numbers. Each pass has been answered just the calls of its life, and all have seen this front.
abbrev pub AreLives : (layout : Layout) (front : List Change) (lives : List PassLife) → Type 0
AreLives layout front [] = Unit {0}
AreLives layout front (life ∷ lives) =
    HasLived layout life.0 life.1 × (life.1.front ≡ front) × All (λ other. other.1.number ≢ life.1.number) lives × AreLives layout front lives

-- The list `events` has the calls of all these lives with their replies, each once, and nothing else. Those of each life stand in their
-- order.
abbrev pub LivesAreWoven : (lives : List PassLife) (events : List Event) → Type 0
LivesAreWoven [] events = events ≡ []
LivesAreWoven (life ∷ lives) events =
    (others : List Event) × LivesAreWoven lives others × AreWoven (map (λ pair. answered pair.0 pair.1) life.0) others events

-- the notes of the passes of these lives, one pass after the other
abbrev pub notes_of_lives : List PassLife → List Note
notes_of_lives lives = notes_of (map (λ life. (life.1.number, life.1.notes)) lives)

-- Passes that have seen the same changes share one legal history of a finite map. Each of their answered calls stands in it once, with its
-- reply, and those of each pass in their order.
abbrev pub OneHistoryOfAll : Type 0
OneHistoryOfAll =
    (layout : Layout) (front : List Change) (lives : List PassLife) → AreLives layout front lives →
    LegalHistory (weave front (notes_of_lives lives)) × LivesAreWoven lives (calls_in (weave front (notes_of_lives lives)))
