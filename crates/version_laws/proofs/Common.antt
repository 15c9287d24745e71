-- What the proofs of this crate cite of std and of the crates below.
pub use Rattle.compound_node.specs.Nodes.{greatest_height, height_of}
pub use Rattle.compound_node.specs.declared.entries.Entry.{Entry}
pub use Rattle.compound_node.specs.declared.entries.Entry.TheVariants.{Leaf, Node}
pub use Rattle.finite_map.specs.declared.Change.{Change}
pub use Rattle.key_bits.specs.Key.{IsKey}
pub use Rattle.node_tries.proofs.Piece.{size_pos}
pub use Rattle.node_tries.specs.Piece.{Fork, Place, RisesFrom, places, size}
pub use Rattle.packed_pairs.specs.declared.direction.Direction.{Direction}
pub use Rattle.packed_pairs.specs.declared.direction.Direction.TheVariants.{Downwards, Upwards}
pub use Rattle.record_words.specs.declared.records.Rec.{Rec}
pub use Rattle.record_words.specs.declared.records.Rec.TheVariants.{Leaf as a_leaf, Node as a_node}
pub use Rattle.std.proofs.Common.{Bool, List, None, Option, Some, [], ap, ap₂, arith, drop, false, fold, if◌then◌else◌, inl, inr, le_refl, le_trans, length, ltb, not, refl, subst, suc, sym, take, true, zero, ℕ, ⊎_elim, ◌*◌, ◌++◌, ◌+◌, ◌-◌, ◌<◌, ◌∙◌, ◌∷◌, ◌≡◌, ◌≢◌, ◌≤◌, ◌⊎◌}
pub use Rattle.std.proofs.lemmas.Bool.{and_parts, cases_eq, cases_lt, cases_order, cond-false, cond-true, false≢true, le-ltb, lt-ltb, ltb-false, ltb-true, not-true}
pub use Rattle.std.proofs.lemmas.Option.{none-some}
pub use Rattle.tries.proofs.Affected.{DifferFirstAt, affected_subtrie, differ_first_through, grown_subtrie, lower_subtrie, part_differs_first, part_place, part_subtrie, place_subtrie}
pub use Rattle.tries.proofs.Changes.{IsInOwnSubtrie, IsPathBelow, IsRemoved, put}
pub use Rattle.tries.proofs.Changes.Adding.{added as added_at, added_here, added_in_whole, added_without_marks, exchanged_in_whole, exchanged_leaf, has_less, put_less}
pub use Rattle.tries.proofs.Changes.Puts.{built_in_own_subtrie, lower_in_own_subtrie, subtrie_put}
pub use Rattle.tries.proofs.Content.{before_irrefl, found_child, holds_has, more_left, more_right}
pub use Rattle.tries.proofs.Place.{grown, more_after, shape_tips, spot_below, spot_shape, without_marks}
pub use Rattle.tries.proofs.Place.Spots.{IsSpot, subtrie_spot, with_subtrie_entry, without_spot}
pub use Rattle.tries.proofs.Read.{some_injective as some_same}
pub use Rattle.tries.proofs.Tree.{between_high, between_low, between_mid, built_within, descend, follows_if_has, follows_kin, has_child, has_first, has_if_follows, has_under, has_within, kin_tips, parting, rises, same_key, subtrie_child, trie_within, under_below, within_child, within_trans}
pub use Rattle.tries.proofs.Tree.Fitting.{fit_swap, lower_positive, lower_positive as some_height}
pub use Rattle.tries.specs.Affected.{FirstForkIsBefore, IsLowerSubtrie, IsLeafOrFork, IsLeafOrForkSubtrie, IsTipSubtrie, affected, subtrie_affected, subtrie_forked, subtrie_grown}
pub use Rattle.tries.specs.Changes.{IsAdded}
pub use Rattle.tries.specs.Content.{IsMore, Item, added, first, item, items}
pub use Rattle.tries.specs.Keys.{AgreeBelow, IsAtMost, IsBefore, IsParted, Key, bit}
pub use Rattle.tries.specs.Place.{Swap, entry_at, fork_of, in_one, in_zero, shape, side_beside, spot, subtrie_collapsed, subtrie_sibling, subtrie_without, swap, with_subtrie}
pub use Rattle.tries.specs.Search.{Follows, IsUnder, Kin, between, child, forks, found, seek, tips}
pub use Rattle.tries.specs.Tree.{Fixed, Has, Holds, IsBuilt, IsFit, IsFork, IsLower, IsTip, IsTrie, Subtrie, Tree, Within, first_position, fork, here, inside, leaf, node, one_side, subtrie, zero_side}
pub use Rattle.versions.proofs.Core.Growth.{in_tree_now, marked_grown, stands_grown}
pub use Rattle.versions.proofs.Heap.{leaf_number, leaf_parts, near_refl, node_leaf, node_leaf as leaf_node, node_number, node_parts, shown_within}
pub use Rattle.versions.proofs.Heap.Stored.{lower_within, not_above, not_beside, put_built, put_shown}
pub use Rattle.versions.proofs.State.{reach_later, record_of_subtrie, spans_ended, spans_last}
pub use Rattle.versions.proofs.State.Publish.{links_within, top_shown, within_links}
pub use Rattle.versions.proofs.Trades.{of_append, of_left, of_right}
pub use Rattle.versions.specs.Core.{BareCore, Fate, Free, Held, InTree, Marked, Ready, Unlinked, life_of, pin_version, view}
pub use Rattle.versions.specs.Frames.{IsGrown}
pub use Rattle.versions.specs.Heap.{Heap, IsCopied, IsShown, LeafWords, NodeWords}
pub use Rattle.versions.specs.State.{FirstForkIsFrom, IsHeldSince, IsKeptSince, IsLawfulState, IsLed, IsLinked, IsLived, IsReach, IsRecord, IsSameRecord, IsTop, KeepsFixedWordsSince, Life, Linked, Links, Out, Past, Retired, Spans, Stands, State, StoodWithKeys, WasAbsentSince, last_of, rec_of}
pub use Rattle.versions.specs.Steps.{IsNextVersion, IsVersionPublish, at_root, at_slot}
pub use Rattle.versions.specs.Told.{IsChange, TellChanges, content, items_of}
pub use Rattle.versions.specs.Trades.{AreApart, HasTraded, IsOneOf}
