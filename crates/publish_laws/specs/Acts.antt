-- Which locks a pass may try, what it loads under them, and what it still knows after an act.
use Rattle.std.specs.Prelude.{◌≡◌, ℕ, ◌+◌, List, Some, get_or}
use Rattle.compound_node.specs.declared.entries.Entry.TheVariants.{Node}
use Rattle.node_tries.specs.Piece.{Place}
use Rattle.record_words.specs.declared.layout.Layout.{Layout}
use Rattle.record_words.specs.declared.TheConstants.{FIELDS_OFFSET, HEAD_WORDS}
use Rattle.tries.specs.Keys.{Key}
use Rattle.tries.specs.Place.{subtrie_sibling}
use Rattle.record_words.specs.declared.records.Rec.TheVariants.{Node as a_node}
use Rattle.versions.specs.Trades.{IsOneOf}
use Rattle.version_laws.specs.Scan.{EntryStoodSince}
use Rattle.rowex_core.specs.declared.event.Act.{Act}
use Rattle.rowex_core.specs.declared.event.Act.TheVariants.{LoadRef, LoadFixed}
use Rattle.rowex_core.specs.declared.event.Spot.TheVariants.{Slot}
use Rattle.rowex_core.specs.declared.event.Target.TheVariants.{Node as NodeTarget}
use Rattle.rowex_core.specs.declared.known.Known.{Known}
use Rattle.rowex_core.specs.Reading.{node_words_of}
use Rattle.rowex_core.specs.Knowing.{IsEvent, IsPinnedSince}
use Rattle.rowex_table.specs.Rights.{MayLock}
use Rattle.rowex_table.specs.Made.{IsLater}
use Rattle.rowex_table.specs.Runs.{silent}
use Rattle.rowex_table.specs.Stays.{KeepsRecall}
use Rattle.publish_laws.specs.Stages.{IsSure}

-- Let a pass be sure that a node stood in the tree, with some height, in a version since its pin. Then it may try the lock of that node.
abbrev pub LedMayLock : Type 0
LedMayLock =
    (layout : Layout) (known : Known) (since number height : ℕ) → IsPinnedSince known since →
    IsSure known (λ past. EntryStoodSince past since (Node number height)) → MayLock layout (NodeTarget number) known

-- A pass has locked node `number`. On the other side of the last fork on the key's path, that node has just the entry of node `beside`.
-- Then the pass may try the lock of node `beside`.
abbrev pub BesideMayLock : Type 0
BesideMayLock =
    (layout : Layout) (known : Known) (key : Key) (number beside position height : ℕ) (words : List ℕ) →
    IsOneOf (record { node = number; words = words }) known.locks →
    -- the last fork on the path is at `position`
    subtrie_sibling key (node_words_of words).subtrie ≡ Some (position, Place (Node beside height)) → MayLock layout (NodeTarget beside) known

-- A pass knows the words of a node that it has locked, and nobody else changes them. So a load of one of the node's entries, or of a word
-- of its head, finds the word that the pass knows.
abbrev pub LoadsOfLocked : Type 0
LoadsOfLocked =
    (layout : Layout) (old new : Known) (number : ℕ) (words : List ℕ) → IsOneOf (record { node = number; words = words }) old.locks →
    ((index word : ℕ) → IsEvent layout (LoadRef (Slot number index) word) silent old new → word ≡ get_or words (HEAD_WORDS + index) 0) ×
    ((index word : ℕ) → IsEvent layout (LoadFixed (a_node number) (index + FIELDS_OFFSET) word) silent old new → word ≡ get_or words index 0)

-- After each act but a publish, a bulk load, a pin or an unpin, a pass has the same pin and all its facts. It has newly seen only changes
-- of others.
abbrev pub ActGoesOn : Type 0
ActGoesOn = (layout : Layout) (old new : Known) (act : Act) → KeepsRecall act → IsEvent layout act silent old new → IsLater old new
