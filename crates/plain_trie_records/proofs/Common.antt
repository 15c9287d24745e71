-- What the proofs of this crate cite of std and of the crates below.
pub use Rattle.compound_node.specs.Halves.{HalfShows}
pub use Rattle.compound_node.specs.Nodes.{IsBuiltFrom, IsEntry, IsLawfulNode, NodeView, StandsBelow, greatest_height, head_of, height_of, piece}
pub use Rattle.compound_node.specs.declared.entries.Entry.{Entry}
pub use Rattle.compound_node.specs.declared.entries.Entry.TheVariants.{Leaf, Node}
pub use Rattle.compound_node.specs.declared.halves.Cut.{Cut}
pub use Rattle.compound_node.specs.declared.halves.Half.{Half}
pub use Rattle.compound_node.specs.declared.halves.Half.TheVariants.{Many, One, Same}
pub use Rattle.finite_map.specs.Maps.{Map, value_at}
pub use Rattle.finite_map.specs.Scans.{IsScanOf, is_within, range_of}
pub use Rattle.insert_cases.proofs.Pairs.{IsPairOf, pair_facts, pair_of, tip_entry, tip_low}
pub use Rattle.insert_cases.proofs.Ways.{affected_range, all_away, has_found, part_of_two, size_affected, some_injective, tip_child, tip_of_one_place}
pub use Rattle.insert_cases.specs.Grown.{GrownShows, SidesShow, is_whole, keeps_node}
pub use Rattle.insert_cases.specs.Risen.{subtrie_of}
pub use Rattle.insert_cases.specs.Ways.{IsAffectedNode, WayBelow, below, body, case_of, is_leaf, stage}
pub use Rattle.insert_cases.specs.declared.growth.Grown.{Grown}
pub use Rattle.insert_cases.specs.declared.growth.Grown.TheVariants.{Two}
pub use Rattle.insert_cases.specs.declared.raising.Risen.{Risen}
pub use Rattle.insert_cases.specs.declared.raising.Risen.TheVariants.{Split, Whole}
pub use Rattle.key_bits.specs.Bits.{IsFirstDifference, bit_of}
pub use Rattle.key_bits.specs.declared.TheConstants.{MAX_BYTES}
pub use Rattle.node_tries.proofs.Grafts.{size-grown}
pub use Rattle.node_tries.proofs.Piece.{length-paths, length-places}
pub use Rattle.node_tries.specs.Changes.{AtRootFork, replaced}
pub use Rattle.node_tries.specs.Grafts.{IsAbovePath, grafted}
pub use Rattle.node_tries.specs.Growth.{IsAffected, IsFresh, affected_count, affected_first, forked, grown, grown as piece_grown}
pub use Rattle.node_tries.specs.Piece.{Fork, Piece, Place, RisesFrom, leads_to, paths, places, size}
pub use Rattle.std.proofs.Common.{Bool, List, MatchBool, MatchResult, None, Option, Some, [], add-one, ap, append_assoc, ap₂, arith, drop, eqb, false, get_or, if◌then◌else◌, inl, inr, length, length-append, length-set, max, nat_lt, refl, set, subst, suc, sym, take, true, zero, ℕ, ⊎_elim, ◌*◌, ◌++◌, ◌+◌, ◌-◌, ◌<◌, ◌∙◌, ◌∷◌, ◌≡◌, ◌≢◌, ◌≤◌, ◌⊎◌}
pub use Rattle.std.proofs.Math.Seq.{get_or-append_seam, take-suc}
pub use Rattle.std.proofs.lemmas.Bool.{cases_Bool, cases_lt, cond-false, cond-true, eq-eqb, eqb-false, eqb-true, false≢true, le-ltb, lt-ltb, ltb-false, ltb-true}
pub use Rattle.std.proofs.lemmas.List.{append-nil, get_or-append-add, get_or-set_other, get_or-set_same, get_or_append_left, length-map, take-append-drop, take_all}
pub use Rattle.std.proofs.lemmas.Option.{get_or_from_slice_get, slice_get-get_or, slice_get_within}
pub use Rattle.std.specs.Prelude.{IsTrue, cond, not, option_map, slice_get, slice_set, ◌↔◌}
pub use Rattle.std.specs.Vec.{vec_len}
pub use Rattle.tries.proofs.Affected.{DifferFirstAt, grown_subtrie, part_place, place_subtrie}
pub use Rattle.tries.proofs.Changes.{IsInOwnSubtrie, IsPathBelow, put}
pub use Rattle.tries.proofs.Changes.Adding.{added, added_here, added_in_whole, added_without_marks}
pub use Rattle.tries.proofs.Changes.Puts.{built_in_own_subtrie, lower_in_own_subtrie, subtrie_put}
pub use Rattle.tries.proofs.Content.{content_rises, found_child, holds_has, in_append_left, in_append_right}
pub use Rattle.tries.proofs.Place.{leads_spot, spot_below, without_marks}
pub use Rattle.tries.proofs.Tree.{built_within, has_first, has_within, rises, subtrie_child, trie_within, within_child}
pub use Rattle.tries.proofs.Tree.Building.{body_bound, fork_of_two_places, greatest_if_lower, lower_by_greatest, node_built, node_built_from, size-piece}
pub use Rattle.tries.proofs.Tree.Fitting.{lower_positive}
pub use Rattle.tries.specs.Affected.{IsLeafOrFork, affected, subtrie_forked, subtrie_grown}
pub use Rattle.tries.specs.Changes.{IsAdded}
pub use Rattle.tries.specs.Content.{IsIn, Item, first, item, items, pairs}
pub use Rattle.tries.specs.Keys.{Key}
unfoldable pub use Rattle.tries.specs.Keys.{bit}
pub use Rattle.tries.specs.Place.{spot}
pub use Rattle.tries.specs.Search.{child, found, seek}
pub use Rattle.tries.specs.Tree.{Fixed, Has, IsBuilt, IsFit, IsFork, IsLower, IsTip, IsTrie, Subtrie, Tree, Within, first_position, fork, here, inside, leaf, node, one_side, subtrie, zero_side}
