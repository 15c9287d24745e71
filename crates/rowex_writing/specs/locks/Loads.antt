-- Words of a locked node that have been loaded, the first one first.
use Rattle.std.specs.Prelude.{◌≡◌, ◌⊎◌, ℕ, ◌+◌, ◌<◌, ◌≤◌, List, length, get_or}
use Rattle.compound_node.specs.Nodes.{NodeView}
use Rattle.record_words.specs.Kinds.{head_size, kind_in}
use Rattle.record_words.specs.declared.TheConstants.{HEAD_WORDS, SLOT_GROUP}
use Rattle.rowex_core.specs.declared.event.Event.{Event}
use Rattle.rowex_table.specs.Rule.{record_number}
use Rattle.rowex_table.specs.Seats.{TableView, SeatView, IsSeatOf}
use Rattle.rowex_writing.specs.locks.Going.{HasLocked, IsNodeOf, WorksOnKeepingRecords}
use Rattle.rowex_writing.specs.declared.locks.locked.NodeLoads.{NodeLoads}

-- The first `count` loaded words are those that the pass knows of the locked node. If `count` isn't 0, the known words are those of a node.
pub record AreThose (loaded words : List ℕ) (count : ℕ) : Type 0 where
  pub each : (index : ℕ) → index < count → get_or loaded index 0 ≡ get_or words index 0
  pub spelled : 0 < count → (view : NodeView) × IsNodeOf words view

-- The pass has gone on as `WorksOnKeepingRecords` says. It has read the first `count` words of a locked node into `loaded`, each by at most
-- one load. `loaded` has 57 words, as many as a node has beside its state. Behind the first `count` all are 0.
pub record AreRead {G : Type 0} (table : TableView) (becomes : G → Event → G → Type 0) (old new : SeatView × G) (number : ℕ)
    (loaded : List ℕ) (count : ℕ) : Type 0 where
  pub own : IsSeatOf table new.0
  pub reads : WorksOnKeepingRecords table becomes old new
  pub long : length loaded ≡ 57
  pub rest : (index : ℕ) → count ≤ index → get_or loaded index 0 ≡ 0
  pub those : (words : List ℕ) → HasLocked old.0.known number words → AreThose loaded words count
  pub few : new.0.known.steps ≤ old.0.known.steps + count

-- Let just the first word of a node have been read, and let heads of the kind that it tells have `size` words. Then the node's first
-- `HEAD_WORDS` words are read, those that such a head doesn't use as well.
abbrev pub ReadsRest : {G : Type 0} → (table : TableView) → (becomes : G → Event → G → Type 0) → (number size : ℕ) →
    (before after : (SeatView × G) × List ℕ) → Type 0
ReadsRest {G} table becomes number size (middle, old) (final, new) =
    (start : SeatView × G) → AreRead table becomes start middle number old 1 → head_size (kind_in (get_or old 0 0)) ≡ size →
    AreRead table becomes start final number new HEAD_WORDS

-- a node's first `count` words: `count` is `upto`, or less if no entry of the node has a word from there on
abbrev pub ReachesTo : NodeLoads → (count upto : ℕ) → Type 0
ReachesTo loads count upto = (count ≤ upto) × ((count ≡ upto) ⊎ (HEAD_WORDS + loads.numbers.count ≤ count))

-- the pass has read the node's words before index `upto`, or fewer if no entry has a word from there on
abbrev pub IsReadTo : {G : Type 0} → (table : TableView) → (becomes : G → Event → G → Type 0) → (old new : SeatView × G) →
    (loads : NodeLoads) → (loaded : List ℕ) → (upto : ℕ) → Type 0
IsReadTo table becomes old new loads loaded upto =
    (count : ℕ) × AreRead table becomes old new (record_number loads.node.rec) loaded count × ReachesTo loads count upto

-- if the pass has read the node's words before index `first`, as `IsReadTo` says, it reads on to before `first + SLOT_GROUP`
abbrev pub ReadsGroup : {G : Type 0} → (table : TableView) → (becomes : G → Event → G → Type 0) → (loads : NodeLoads) → (first : ℕ) →
    (before after : (SeatView × G) × List ℕ) → Type 0
ReadsGroup {G} table becomes loads first (middle, old) (final, new) =
    (start : SeatView × G) → IsReadTo table becomes start middle loads old first → IsReadTo table becomes start final loads new (first + SLOT_GROUP)
