-- What the proofs of this crate cite of std and of the crates below.
pub use Rattle.compound_node.specs.Nodes.{NodeView, StandsBelow, greatest_height, height_of, piece}
pub use Rattle.compound_node.specs.declared.entries.Entry.{Entry}
pub use Rattle.compound_node.specs.declared.entries.Entry.TheVariants.{Leaf, Node}
pub use Rattle.finite_map.specs.declared.Change.{Change}
pub use Rattle.key_bits.specs.declared.TheConstants.{MAX_BYTES}
pub use Rattle.node_tries.specs.Piece.{Fork, Place, RisesFrom, places, size}
pub use Rattle.record_words.specs.Decoding.{entry_of}
pub use Rattle.record_words.specs.Entry.{HasEntryWord, entry_word}
pub use Rattle.record_words.specs.declared.layout.Layout.{Layout}
pub use Rattle.record_words.specs.declared.records.Rec.{Rec}
pub use Rattle.record_words.specs.declared.records.Rec.TheVariants.{Leaf as a_leaf, Node as a_node}
pub use Rattle.rowex_core.proofs.Cores.{stays_lawful}
pub use Rattle.rowex_core.proofs.Cores.Loading.{view, view as state_of}
pub use Rattle.rowex_core.proofs.Having.{locks_none, node_used, not_free, owned_used, owns_none}
pub use Rattle.rowex_core.proofs.Reading.{entry_of_word, node_is}
pub use Rattle.rowex_core.proofs.Sharing.Owning.{knows_all, pin_is, recalls}
pub use Rattle.rowex_core.proofs.Writers.{publish_is_legal, value_is_legal}
pub use Rattle.rowex_core.specs.Cores.{Core, FitsIn, HasRecord, HasWord, IsLawful, IsPastFilling, bare, heap_of, holder_of}
pub use Rattle.rowex_core.specs.Events.{IsInTree, IsLockedAt, IsOfEntry, IsOffset, IsPackedAt, IsWordFor, Legal, after, anchored, claimed, given_back, loaded_tree, marked, next_tree, stored_root, stored_words}
pub use Rattle.rowex_core.specs.Knowing.{IsEvent, IsPinnedSince, IsStillLoaded, Knows, Recalls, learned}
pub use Rattle.rowex_core.specs.Reading.{node_words_of}
unfoldable pub use Rattle.rowex_core.specs.Reading.{IsPacked, leaf_of}
pub use Rattle.rowex_core.specs.Runs.{EventsLead}
pub use Rattle.rowex_core.specs.Sharing.{IsLocked, IsOwned, fate_of}
pub use Rattle.rowex_core.specs.declared.event.Act.{Act}
pub use Rattle.rowex_core.specs.declared.event.Act.TheVariants.{Advance, Claim, ClearPin, Fill, GiveBack, Load, LoadEpoch, LoadFixed, LoadPin, LoadRef, LoadState, Lock, Mark, Publish, Ready as MakeReady, Release, SetPin, Unlock}
pub use Rattle.rowex_core.specs.declared.event.Event.{Event}
pub use Rattle.rowex_core.specs.declared.event.Spot.{Spot}
pub use Rattle.rowex_core.specs.declared.event.Spot.TheVariants.{Root, Slot, Value}
pub use Rattle.rowex_core.specs.declared.event.Target.TheVariants.{Anchor, Node as NodeTarget}
pub use Rattle.rowex_core.specs.declared.known.Holding.TheVariants.{Held as HeldBy, Ready as IsReady, Ready as ReadyBy, Unlinked as UnlinkedBy}
pub use Rattle.rowex_core.specs.declared.known.Known.{Known}
pub use Rattle.rowex_core.specs.declared.known.Locked.{Locked}
pub use Rattle.rowex_core.specs.declared.known.Owned.{Owned}
pub use Rattle.rowex_table.proofs.Made.ActsAfter.{IsPublishOf, MayPublish, epoch_leaves, epoch_owns, mark_gives, mark_leaves, marks_own, publishes_made, unlock_anchor_gives, unlock_gives, unlock_leaves, unlock_round, unlocks_node}
pub use Rattle.rowex_table.proofs.Made.ActsBefore.{later_trans, ready_gives_next, recalls_before, recalls_on, same_later, value_loaded}
pub use Rattle.rowex_table.specs.Made.{HasReadied, HoldsMade, IsLater, Made, held_as, recs_of}
pub use Rattle.rowex_table.specs.Runs.{Runs, Steps, StepsWith, silent}
pub use Rattle.rowex_table.specs.Seats.{SeatView, TableView}
pub use Rattle.std.proofs.Common.{Bool, List, None, Option, Some, [], ap, append-nil, append_assoc, ap₂, arith, false, if◌then◌else◌, inl, inr, le_refl, length, length-append, map, nat_eq, refl, set, subst, suc, sym, true, ℕ, ◌*◌, ◌++◌, ◌+◌, ◌-◌, ◌<◌, ◌^◌, ◌∙◌, ◌∷◌, ◌≡◌, ◌≢◌, ◌≤◌, ◌⊎◌}
pub use Rattle.std.proofs.lemmas.List.{map-append, take_all}
pub use Rattle.std.specs.Prelude.{All, Contains, not}
pub use Rattle.tries.proofs.Place.{seek_spot, spot_below}
pub use Rattle.tries.proofs.Tree.{built_within, trie_within, within_trans}
pub use Rattle.tries.proofs.Tree.Building.{fork_of, fork_of_two_places, greatest-append, new_bound, size-piece}
pub use Rattle.tries.specs.Affected.{FirstForkIsBefore, IsLowerSubtrie, IsLeafOrForkSubtrie, IsTipSubtrie, subtrie_affected, subtrie_forked, subtrie_grown}
pub use Rattle.tries.specs.Content.{Item, item}
pub use Rattle.tries.specs.Keys.{AgreeBelow, Key, bit}
pub use Rattle.tries.specs.Place.{fork_closed, spot, subtrie_collapsed, subtrie_sibling, subtrie_without, with_entry, with_subtrie}
pub use Rattle.tries.specs.Search.{child, seek}
pub use Rattle.tries.specs.Tree.{Fixed, IsBuilt, IsTrie, Subtrie, Tree, Within, first_position, fork, here, inside, leaf, node, subtrie}
pub use Rattle.version_laws.proofs.Now.{built_now, shown_now, trie_now}
pub use Rattle.version_laws.proofs.Rise.{fork_parts, insert_at_spot, risen}
pub use Rattle.version_laws.proofs.Rise.Taking.{left_tree, remove_at_spot, remove_only, same_entry}
pub use Rattle.version_laws.proofs.Spots.{leaf_at, newest_tree_if_spot_held}
pub use Rattle.version_laws.proofs.Standing.{newest_tree_if_node, stands_now}
pub use Rattle.version_laws.proofs.Statements.Search.{holds_within, leaf_now}
pub use Rattle.version_laws.specs.Rise.{IsBesideNode, IsEntryFor, IsLeafOf, IsNewSubtrie, IsRise, IsUpper, Side, alone, body, copies, entry, grows, halves, in_node, linked_by_rise, linked_for_entry, pulls, stays_whole, subtrie_merged, unlinked_by_rise, wraps}
pub use Rattle.version_laws.specs.Scan.{EntryStoodSince, HadShapeSince, IsPlaced, IsRead}
pub use Rattle.version_laws.specs.Spots.{AffectsSpotAloneInCore, HoldsSpot, IsLockedNode, IsLowAt, IsStoredAt, by_anchor, by_node, subtrie_below}
pub use Rattle.version_laws.specs.Statements.{IsPublished}
pub use Rattle.version_laws.specs.Writer.{IsFoundBelow, IsNewLeaf, IsSubtrieStored, IsWayBelow, Newcomer, added_change, removed_change, replaced_change}
pub use Rattle.versions.proofs.Heap.{leaf_node, node_number, shown_within}
pub use Rattle.versions.proofs.Trades.{all_of, map_of, of_left, of_right}
pub use Rattle.versions.specs.Core.{Fate, Free, Held, InTree, Marked, Ready, Shared, Unlinked, pin_version}
pub use Rattle.versions.specs.Heap.{LeafWords, NodeWords}
pub use Rattle.versions.specs.State.{FirstForkIsFrom, IsReach, KeepsFixedWordsSince, Past}
pub use Rattle.versions.specs.Steps.{HasLockedNamer, in_root, is_linked, next_fate, unlocked, with_epoch, with_fate, with_lock}
pub use Rattle.versions.specs.Told.{content, items_of}
pub use Rattle.versions.specs.Trades.{AreApart, HasTraded, IsOneOf}
