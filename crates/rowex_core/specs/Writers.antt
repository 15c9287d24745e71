-- The laws of a writer's publish, in words.
use Rattle.std.specs.Prelude.{◌≡◌, ◌≢◌, ℕ, ◌+◌, ◌<◌, ◌≤◌, ◌^◌, List, [], All, length, set, Option, Some}
use Rattle.compound_node.specs.declared.entries.Entry.{Entry}
use Rattle.compound_node.specs.Nodes.{NodeView, StandsBelow}
use Rattle.finite_map.specs.declared.Change.{Change}
use Rattle.record_words.specs.declared.TheConstants.{HEAD_WORDS}
use Rattle.record_words.specs.Entry.{HasEntryWord, entry_word}
use Rattle.record_words.specs.Node.{HasNodeWords, node_words}
use Rattle.tries.specs.Tree.{Tree}
use Rattle.tries.specs.Place.{with_entry}
use Rattle.record_words.specs.declared.records.Rec.{Rec}
use Rattle.record_words.specs.declared.records.Rec.TheVariants.{Node as a_node}
use Rattle.versions.specs.declared.Pin.{Pin}
use Rattle.versions.specs.State.{Stands}
use Rattle.versions.specs.Told.{items_of}
use Rattle.versions.specs.Trades.{HasTraded}
use Rattle.versions.specs.Steps.{IsVersionPublish as IsVersionsPublish}
use Rattle.rowex_core.specs.declared.event.Spot.{Spot}
use Rattle.rowex_core.specs.declared.event.Spot.TheVariants.{Value}
use Rattle.rowex_core.specs.declared.known.Known.{Known}
use Rattle.rowex_core.specs.Reading.{node_words_of}
use Rattle.rowex_core.specs.Cores.{Core, IsLawful, bare, heap_of}
use Rattle.rowex_core.specs.Words.{state_at}
use Rattle.rowex_core.specs.Events.{IsLegalPublish, IsLockedAt, IsWordFor, IsOfEntry, IsPackedAt, IsInTree, stored_words, stored_root, next_tree, next_change}
use Rattle.rowex_core.specs.Having.{OwnsJust, LocksJust, AreKept, InAnyWay, IsUnlinked}
use Rattle.rowex_core.specs.Knowing.{Knows, publish_learned}

-- Let a word be stored at the root or in a slot, under the pass's lock. The word may stand there, and the words of a node there still
-- encode one. Let the versions allow the store as a publish of this tree and this change (`IsVersionsPublish`), and let the leaves change.
-- The store is a legal publish. The words then show this tree, and the change found between the leaves is this one.
abbrev pub PublishIsLegal : Type 0
PublishIsLegal =
    (core : Core) (pass : ℕ) (spot : Spot) (word : ℕ) → IsOfEntry spot → IsLawful core → IsLockedAt core pass spot → IsWordFor spot word →
    IsPackedAt core spot word →
    (tree : Option Tree) (change : Change) →
    IsVersionsPublish (bare core) pass (heap_of (stored_words core spot word)) (stored_root core spot word) tree change →
    items_of (core.past.version core.past.now) ≢ items_of tree →
    IsLegalPublish core pass spot word × (next_tree core spot word ≡ tree) × (next_change core pass spot word ≡ change)

-- A store of a value of 64 bits in a lawful core, under the lock of what names its leaf, is a legal publish. It links no record anew, and
-- unlinks none.
abbrev pub ValueIsLegal : Type 0
ValueIsLegal =
    (core : Core) (pass leaf word : ℕ) → IsLawful core → IsLockedAt core pass (Value leaf) → word < 2 ^ 64 →
    IsLegalPublish core pass (Value leaf) word × HasTraded (core.past.version core.past.now) (next_tree core (Value leaf) word) [] []

-- Let words encode a node, and replace the entry of one of its slots by another, whose height is below the node's. The words with that
-- entry's word encode the node with that entry. What is read from them has the fixed part of before, and the subtrie with that entry.
abbrev pub SlotIsStored : Type 0
SlotIsStored =
    (view : NodeView) (words : List ℕ) → HasNodeWords view → node_words view ≡ words → All (λ word. word < 2 ^ 64) words →
    (slot : ℕ) (entry : Entry) → slot < length view.entries → HasEntryWord (Some entry) → StandsBelow view.height entry →
    let stored = record view { entries = set view.entries slot entry } in let after = set words (HEAD_WORDS + slot) (entry_word (Some entry)) in
    HasNodeWords stored × (node_words stored ≡ after) ×
    (node_words_of after ≡ record { fixed = (node_words_of words).fixed; subtrie = with_entry (node_words_of words).subtrie slot entry })

-- Let a node have stood in the tree in a version since a pass's pin. If its state word is 2, which says live, it is in the tree now.
-- Without the pin it might have been given back, and be ready for another place.
abbrev pub LedIsInTree : Type 0
LedIsInTree =
    (core : Core) → IsLawful core → (pass : ℕ) (pin : Pin) → core.pins pass ≡ Some pin → (number version : ℕ) (tree : Tree) → pin.version ≤ version →
    version ≤ core.past.now →
    Stands core.past version (a_node number) tree → state_at core (a_node number) ≡ 2 → IsInTree core number

-- Let a pass own just the records that its publish links anew, and have locked just the nodes `held`. After the publish it owns just the
-- records that the publish unlinked. It has locked just those of the nodes that are still linked.
abbrev pub OwnedAfterPublish : Type 0
OwnedAfterPublish =
    (core : Core) (known : Known) (spot : Spot) (word : ℕ) → IsLawful core → Knows core known → (new gone : List Rec) (held kept : List ℕ) →
    HasTraded (core.past.version core.past.now) (next_tree core spot word) new gone → OwnsJust known.own InAnyWay new → LocksJust known.locks held →
    AreKept held gone kept →
    let later = publish_learned core spot word known in OwnsJust later.own IsUnlinked gone × LocksJust later.locks kept
