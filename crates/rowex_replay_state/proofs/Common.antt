-- What the proofs of this crate cite of std and of the crates below.
pub use Rattle.arrayvec.specs.ArrayVec.{ArrayVec}
pub use Rattle.compound_node.proofs.Lawful.{same_count}
pub use Rattle.compound_node.specs.Halves.{CutShows, HalfShows}
pub use Rattle.compound_node.specs.Nodes.{HeadView, IsHead, IsLawfulNode, IsNode, NodeView, head_of, height_of, node_from, piece}
pub use Rattle.compound_node.specs.declared.entries.Entry.{Entry}
pub use Rattle.compound_node.specs.declared.entries.Entry.TheVariants.{Leaf, Node}
pub use Rattle.compound_node.specs.declared.halves.Cut.{Cut}
pub use Rattle.finite_map.specs.declared.Change.{Change}
pub use Rattle.finite_map.specs.declared.Kind.TheVariants.{Added, Removed, Replaced}
pub use Rattle.key_bits.specs.declared.TheConstants.{MAX_BYTES}
pub use Rattle.node_tries.proofs.Piece.{length-places, size_pos}
pub use Rattle.node_tries.specs.Piece.{Fork, Place, places, size}
pub use Rattle.record_words.proofs.Entries.{entry_words_at, entry_words_made, length-entry_words, same_entries}
pub use Rattle.record_words.proofs.Lawful.{column-lt, length-with_unused, row-lt, row_at-with_unused}
pub use Rattle.record_words.proofs.Leaves.{bytes_of_leaf, key_of_bytes, key_part, leaf_words_made, leaf_words_parts, same_pair}
pub use Rattle.record_words.proofs.UpToKey.{up_to_key_before, up_to_key_long, up_to_key_past, up_to_key_size, up_to_key_value}
pub use Rattle.record_words.specs.Decoding.{entry_of}
pub use Rattle.record_words.specs.Entry.{HasEntryWord, entry_word}
pub use Rattle.record_words.specs.HeadParts.{AreNumbersOf}
pub use Rattle.record_words.specs.Leaf.{HasLeafWords, IsBytesOf, key_word, leaf_words, up_to_key}
pub use Rattle.record_words.specs.Node.{HasHeadWords, HasNodeWords, HaveEntryWords, InNodesOf, entry_words, head_words, node_words}
pub use Rattle.record_words.specs.Packed.{column_words, meta_word, position_at, row_at, row_lanes, row_words}
unfoldable pub use Rattle.record_words.specs.Packed.{fixed_words, position_word, row_word}
pub use Rattle.record_words.specs.Reading.{IsReading}
pub use Rattle.record_words.specs.declared.WordFault.{WordFault}
pub use Rattle.record_words.specs.declared.WordFault.TheVariants.{Bad}
pub use Rattle.record_words.specs.declared.layout.Layout.{Layout}
pub use Rattle.record_words.specs.declared.records.Rec.{Rec}
pub use Rattle.record_words.specs.declared.records.Rec.TheVariants.{Leaf as a_leaf, Node as a_node}
pub use Rattle.rowex_core.proofs.Events.Finding.{by_number, same_leaves, top_items}
pub use Rattle.rowex_core.proofs.Reading.{entry_at_is, entry_of_word, entry_word_is, few_entries, node_is}
pub use Rattle.rowex_core.proofs.Reading.Leafing.{leaf_is}
pub use Rattle.rowex_core.proofs.Words.{free_tag, has_state_word}
pub use Rattle.rowex_core.specs.Cores.{Core, FitsIn, HasRecord, HasWord as HasPlace, IsLawful, IsPastFilling, bare, heap_of, word_count_of}
pub use Rattle.rowex_core.specs.Events.{AgreeByNumber, IsFixedOffset, IsInTree, IsLockedAt, IsOffset, LegalAct, after, change_at, change_between, claimed, given_back, marked, next_tree, stored_root, stored_words, tree_of}
pub use Rattle.rowex_core.specs.Reading.{leaf_of, node_words_of}
unfoldable pub use Rattle.rowex_core.specs.Reading.{IsPacked}
pub use Rattle.rowex_core.specs.Words.{lock_of, pin_word, record_word, state_at, tag_of}
pub use Rattle.rowex_core.specs.declared.event.Act.TheVariants.{Claim, ClearPin, Fill, GiveBack, LoadEpoch, LoadFixed, LoadPin, LoadRef, LoadState, Lock, Mark, Publish, Ready, Release, SetPin, Unlock}
pub use Rattle.rowex_core.specs.declared.event.Spot.TheVariants.{Root, Slot, Value}
pub use Rattle.std.proofs.Common.{Bool, Err, IsSome, IsTrue, List, None, Ok, Option, Result, Some, [], ap, append-nil, append_assoc, ap₂, arith, below_more, cond, drop, eqb, false, get_or, get_or-drop, get_or-set_other, get_or-set_same, get_or-take, if◌then◌else◌, inl, inr, is_none, is_ok, length, length-append, length-set, length-take, lit<, map, max, nat_eq, nat_lt, not, option_and_then, option_map, refl, replicate, set, slice_get, slice_index, subst, suc, sym, take, true, unwrap_or, zero, ℕ, ⊎_elim, ◌%◌, ◌*◌, ◌++◌, ◌+◌, ◌-◌, ◌/◌, ◌<◌, ◌^◌, ◌↔◌, ◌∙◌, ◌∷◌, ◌≡◌, ◌≢◌, ◌≤◌, ◌⊎◌}
pub use Rattle.std.proofs.Math.Logic.{∥∥₁_elim}
pub use Rattle.std.proofs.Props.{props}
pub use Rattle.std.proofs.lemmas.Bool.{cases_Bool, cases_eq, cases_lt, eq-eqb, eqb-true, false≢true, le-ltb, lt-ltb, ne_eqb}
pub use Rattle.std.proofs.lemmas.List.{drop-map, drop_at, ext_get_or, get_or-append_right, get_or-map, get_or-replicate, get_or_default, get_or_past, length-map, length-replicate, length-take-le, map-append, set-get_or, set-set, take_all, take_at, take_rest}
pub use Rattle.std.proofs.lemmas.List.Elements.{All-append, All-drop, All-from_get_or, All-head, All-tail, All-take}
pub use Rattle.std.proofs.lemmas.Option.{get_or_from_slice_get, none-some, same_Some, slice_get-get_or, slice_get_past, slice_get_within}
pub use Rattle.std.proofs.lemmas.Result.{IfOk-weaker}
pub use Rattle.std.specs.Prelude.{All, EachIndex, IsErr}
pub use Rattle.tries.specs.Content.{IsAbove, IsExchange, IsMore, Item, added, behind, exchanged, first, items, pairs, past_one}
pub use Rattle.tries.specs.Keys.{IsParted, Key}
unfoldable pub use Rattle.tries.specs.Keys.{bit}
pub use Rattle.tries.specs.Tree.{IsBuilt, IsFit, IsFork, IsLower, IsTrie, Subtrie, Tree, first_position, fork, leaf, node, subtrie}
pub use Rattle.versions.proofs.Core.{linked_cases, same_rec_refl, same_rec_true}
pub use Rattle.versions.proofs.Heap.{determined, leaf_number, leaf_parts, node_number, node_parts}
pub use Rattle.versions.specs.Core.{Fate, Free, Held, InTree, InTree as InTreeSince, Marked, Ready as ReadyBy, Unlinked, has_seen}
pub use Rattle.versions.specs.Heap.{IsShown, LeafWords, NodeWords}
pub use Rattle.versions.specs.State.{IsLinked, IsTop, Links}
pub use Rattle.versions.specs.Steps.{HasLockedNamer, in_node, in_root, is_linked, lowered, next_fate, same_rec, unlocked, with_epoch, with_fate, with_lock, with_pin}
pub use Rattle.versions.specs.Told.{IsChanged, added_change, item_of, items_of, removed_change, replaced_change}
