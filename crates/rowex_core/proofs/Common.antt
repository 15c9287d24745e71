-- What the proofs of this crate cite of std and of the crates below.
pub use Rattle.compound_node.proofs.Lawful.{piece-replaced, replaced_lawful, same_count}
pub use Rattle.compound_node.specs.Nodes.{NodeView, StandsBelow, head_of, piece}
pub use Rattle.compound_node.specs.declared.entries.Entry.{Entry}
pub use Rattle.compound_node.specs.declared.entries.Entry.TheVariants.{Leaf, Node}
pub use Rattle.finite_map.proofs.Fronts.{begins_on, map_of-push, others_begin, others_none, others_on}
pub use Rattle.finite_map.specs.Fronts.{BeginsWith, Fits, FitsKind, LegalFrom, OthersGoOn, changed, changed_by, map_of}
pub use Rattle.finite_map.specs.Maps.{Map, key_order, map_after, step_where, value_at}
pub use Rattle.finite_map.specs.declared.Change.{Change}
pub use Rattle.finite_map.specs.declared.Kind.{Kind}
pub use Rattle.finite_map.specs.declared.Kind.TheVariants.{Added, Removed, Replaced}
pub use Rattle.node_tries.specs.Piece.{Fork, Place, places, size}
pub use Rattle.partial_keys.specs.Shown.{piece_of, shown}
pub use Rattle.record_words.proofs.Entries.{entry_words_at, entry_words_made, length-entry_words}
pub use Rattle.record_words.proofs.HeadParts.{middle_row_is, narrow_row_is, near_column_is, told, whole, wide_position, wide_row}
pub use Rattle.record_words.proofs.Leaves.{IsLeafOf, byte-lt, leaf_words_parts}
pub use Rattle.record_words.proofs.OfKinds.{not_true, not_true as was_true}
pub use Rattle.record_words.proofs.UpToKey.{spells_up_to_key, up_to_key_before, up_to_key_size, up_to_key_value}
pub use Rattle.record_words.specs.Decoding.{bytes_in, column_byte, column_in, entries_of, row_in}
unfoldable pub use Rattle.record_words.specs.Decoding.{entry_of}
pub use Rattle.record_words.specs.Entry.{HasEntryWord, entry_word}
pub use Rattle.record_words.specs.Layout.{IsInTable, address, leaf_size, leaf_start, node_start, word_count}
pub use Rattle.record_words.specs.Leaf.{HasLeafWords, leaf_words, up_to_key, words_for}
unfoldable pub use Rattle.record_words.specs.Leaf.{key_word}
pub use Rattle.record_words.specs.Node.{HasNodeWords, entry_words, head_words, node_words}
pub use Rattle.record_words.specs.Packed.{fixed_words}
pub use Rattle.record_words.specs.State.{HasStateWord, state_word}
pub use Rattle.record_words.specs.declared.TheConstants.{ANCHOR_WORD, LEAF_FIELDS, NODE_FIELDS}
pub use Rattle.record_words.specs.declared.layout.Layout.{Layout}
pub use Rattle.record_words.specs.declared.layout.Location.{Location}
pub use Rattle.record_words.specs.declared.layout.Location.TheVariants.{Anchor as AnchorWord, Epoch, LeafWord, NodeWord, Pin as PinOf, Root as RootWord}
pub use Rattle.record_words.specs.declared.records.Rec.{Rec}
pub use Rattle.record_words.specs.declared.records.Rec.TheVariants.{Leaf as a_leaf, Node as a_node}
pub use Rattle.std.proofs.Common.{Bool, IsSome, List, None, Option, Some, [], ap, append-nil, append_assoc, ap₂, arith, drop, eqb, false, fold, get_or, get_or-drop, get_or-take, if◌then◌else◌, inl, inr, le_refl, le_trans, length, length-take, lit<, ltb, map, nat_eq, nat_lt, refl, replicate, set, subst, suc, sym, take, true, zero, ℕ, ⊎_elim, ◌%◌, ◌&&◌, ◌*◌, ◌++◌, ◌+◌, ◌-◌, ◌/◌, ◌<◌, ◌^◌, ◌||◌, ◌∙◌, ◌∷◌, ◌≡◌, ◌≢◌, ◌≤◌, ◌⊎◌}
pub use Rattle.std.proofs.Math.ListN.{length-set}
pub use Rattle.std.proofs.lemmas.Bool.{cases_Bool, cases_eq, cases_lt, eq-eqb, eqb-true, false≢true, le-ltb, lt-ltb, ne_eqb}
pub use Rattle.std.proofs.lemmas.List.{drop-set-add, drop-set-lt, drop_at, ext_get_or, get_or-map, get_or-replicate, get_or-set_other, get_or-set_same, get_or_default, get_or_past, length-map, length-replicate, length-take-le, map-set, set-append_right, take-set-le, take_all, take_at}
pub use Rattle.std.proofs.lemmas.List.Elements.{All-append, All-cons, All-contains, All-contains_itself, All-filter, All-from_recursion, All-get_or, All-map, All-nil, All-push, All-replicate, All-set, All-weaker, filter-append}
pub use Rattle.std.proofs.lemmas.List.FromFn.{get_or-map-range_with_len, length-map-range_with_len}
pub use Rattle.std.proofs.lemmas.Option.{none-some, slice_get-get_or, slice_get_past, unwrap_or-slice_get}
pub use Rattle.std.specs.Option.{unwrap_or}
pub use Rattle.std.specs.Prelude.{All, Contains, filter, not, slice_get}
pub use Rattle.tries.proofs.Content.{IsRising, before_irrefl, content_rises, each_append, each_in, within_has}
pub use Rattle.tries.specs.Content.{Each, IsExchange, IsIn, IsMore, Item, added, behind, exchanged, first, items, past_one}
pub use Rattle.tries.specs.Keys.{IsBefore, Key}
pub use Rattle.tries.specs.Place.{Swap, entry_at, in_one, in_zero, swap, with_entry}
pub use Rattle.tries.specs.Tree.{Fixed, Has, IsBuilt, IsLower, IsTrie, Subtrie, Tree, fork, leaf, node, subtrie}
pub use Rattle.versions.proofs.Core.{linked_cases, links_true, same_rec_refl, same_rec_true}
pub use Rattle.versions.proofs.Core.Growth.{in_tree_now, stands_grown}
pub use Rattle.versions.proofs.Core.Values.{NamerNow, in_tree_if_linked, named_in_tree, namer_now, one_locker, then_, value_publish, value_trade}
pub use Rattle.versions.proofs.Heap.{determined, leaf_number, near_refl, node_number, shown_within}
pub use Rattle.versions.proofs.State.{hindsight as state_hindsight, reach_later, spans_ended, spans_last, state_parting}
pub use Rattle.versions.proofs.State.Publish.{links_within, version_old, within_links}
pub use Rattle.versions.proofs.Steps.{core_reach, core_steady, opening_core, some_pass_injective, step_lawful}
pub use Rattle.versions.proofs.Trades.{all_of, filter_of, none_of, of_append, of_filter, of_left, of_map, of_right}
pub use Rattle.versions.specs.Core.{Fate, Free, Held, Held as HeldBy, InTree, Marked, Ready, Ready as ReadyBy, Shared, Unlinked, Unlinked as UnlinkedBy, has_seen, life_of, pin_version, view as versions_of}
pub use Rattle.versions.specs.Frames.{IsGrown}
pub use Rattle.versions.specs.Heap.{Heap, IsCopied, IsShown, KeepsAllButOneEntry, LeafWords, NodeWords}
pub use Rattle.versions.specs.Loads.{loaded_by, loaded_past}
pub use Rattle.versions.specs.State.{IsLinked, IsLived, IsReach, IsRecord, IsSameRecord, IsTop, Links, Past, Spans, Stands, State, last_of}
pub use Rattle.versions.specs.Steps.{HasLockedNamer, IsLawfulCore, IsLockable, IsNextVersion, IsStore, IsVersionPublish, IsVersionPublish as IsVersionsPublish, advances, after_mark, at_first, at_root, at_slot, at_value, claims, fills, gives_back, in_node, in_root, is_linked, links, loads_epoch, loads_pin, locks, locks_anchor, lowered, marks, next_fate, pins, publishes, readies, releases, same_rec, unlocked, unlocks, unlocks_anchor, unpins, with_anchor, with_epoch, with_fate, with_lock, with_pin, with_round}
pub use Rattle.versions.specs.Told.{IsChange, IsChanged, added_change, content, item_of, items_of, removed_change, replaced_change}
pub use Rattle.versions.specs.Trades.{AreApart, HasTraded, IsOneOf}
pub use Rattle.versions.specs.declared.Pin.{Pin}
pub use Rattle.versions.specs.declared.Round.{Round}
