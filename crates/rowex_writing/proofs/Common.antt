-- What the proofs of this crate cite of std and of the crates below.
pub use Rattle.compound_node.proofs.Lawful.{same_count}
pub use Rattle.compound_node.specs.Halves.{HalfShows}
pub use Rattle.compound_node.specs.Nodes.{HeadView, IsBuiltFrom, IsEntry, IsLawfulNode, NodeView, StandsBelow, greatest_height, head_of, height_of, piece}
pub use Rattle.compound_node.specs.declared.entries.Entry.{Entry}
pub use Rattle.compound_node.specs.declared.entries.Entry.TheVariants.{Leaf as LeafEntry, Node, Node as NodeEntry}
pub use Rattle.compound_node.specs.declared.halves.Half.{Half}
pub use Rattle.compound_node.specs.declared.halves.Half.TheVariants.{Many, One, Same}
pub use Rattle.finite_map.proofs.Fronts.{begins_itself, begins_on, begins_push, others_on}
pub use Rattle.finite_map.specs.Fronts.{BeginsWith, OthersGoOn}
pub use Rattle.finite_map.specs.Maps.{Map, key_of, step_if, value_at, with_value, wrapped_sum}
pub use Rattle.finite_map.specs.declared.Call.{Call}
pub use Rattle.finite_map.specs.declared.Change.{Change, Change as MapChange}
pub use Rattle.finite_map.specs.declared.Kind.TheVariants.{Added, Removed as TakenAway, Replaced}
pub use Rattle.finite_map.specs.declared.Reply.{Reply}
pub use Rattle.insert_cases.proofs.Pairs.{IsPairOf, pair_facts, tip_entry}
pub use Rattle.insert_cases.proofs.Ways.{first_fork_is_not, some_at, some_injective}
pub use Rattle.insert_cases.proofs.Ways.Affecting.{FirstForkIsNot, key_part}
pub use Rattle.insert_cases.specs.Grown.{GrownShows, IsCutOf, SidesShow, is_same, is_whole, keeps_node}
pub use Rattle.insert_cases.specs.Levels.{IsChainEnd, IsChosen, IsLevel}
pub use Rattle.insert_cases.specs.Risen.{subtrie_of}
pub use Rattle.insert_cases.specs.Ways.{case_of}
pub use Rattle.insert_cases.specs.declared.choice.Case.{Case}
pub use Rattle.insert_cases.specs.declared.choice.Case.TheVariants.{LeafPushdown, NormalInsert, Overflow}
pub use Rattle.insert_cases.specs.declared.choice.Choice.{Choice}
pub use Rattle.insert_cases.specs.declared.choice.PathNode.{PathNode}
pub use Rattle.insert_cases.specs.declared.growth.Grown.{Grown}
pub use Rattle.insert_cases.specs.declared.growth.Grown.TheVariants.{One as Single, Two}
pub use Rattle.insert_cases.specs.declared.raising.Risen.{Risen}
pub use Rattle.insert_cases.specs.declared.raising.Risen.TheVariants.{Split, Whole}
pub use Rattle.node_tries.proofs.Piece.{size_pos}
pub use Rattle.node_tries.specs.Changes.{AtRootFork, beside, collapsed, without}
pub use Rattle.node_tries.specs.Growth.{IsAffected, IsFresh, affected_count, affected_first, grown}
pub use Rattle.node_tries.specs.Piece.{Fork, Place, RisesFrom, leads_to, places, size}
pub use Rattle.publish_laws.proofs.Acts.{led_may_lock}
pub use Rattle.publish_laws.proofs.Cases.{leaf_stays, remove, remove_the_last, store_value}
pub use Rattle.publish_laws.proofs.Cases.Merging.{beside_in_table, beside_may_lock, collapsed_low, merge, merged_low, merged_rises}
pub use Rattle.publish_laws.proofs.Insertions.Inserting.{first_made, insertion, pair}
pub use Rattle.publish_laws.proofs.Lone.{look_free, one_of, runs_free, runs_out, runs_spare, step_back}
pub use Rattle.publish_laws.proofs.Loops.{holds_rights, later_if_same, later_transitive, locked_on as stays_on, locked_same, readies_all, ready_next, still_locked}
pub use Rattle.publish_laws.proofs.Rises.{above_goes_on, rise_grows, rise_whole, risen_stays, rises_copied, rises_halved, rises_pulled, rises_wrapped, stage_earlier}
pub use Rattle.publish_laws.proofs.Spots.{spot_in, spot_stays}
pub use Rattle.publish_laws.proofs.Stages.{stage_of}
pub use Rattle.publish_laws.proofs.Sure.{descent_begins, descent_ends, descent_finds, descent_goes_on, found_stays, reach_since, seen_is_sure, sure_stays}
pub use Rattle.publish_laws.specs.Ending.{IsAtRest}
pub use Rattle.publish_laws.specs.Loops.{KeepsLoaded, ReadiesEach, StaysLocked}
pub use Rattle.publish_laws.specs.Rises.{HasFoundBelow, IsBuiltAnew, IsSide, anew, made_of_leaf, made_of_node, one}
pub use Rattle.publish_laws.specs.Spots.{AffectsSpotAlone, FitsAt, HoldsAt, IsSpotOf, IsSubtrieBelow, at_root, in_node}
pub use Rattle.publish_laws.specs.Stages.{AreBeside, HasLeaf, HasLoaded, HasReady, HasRisen, IsLeafThere, IsLockedAbove, IsStage, IsSure, SpellsLeaf, merged}
pub use Rattle.record_words.proofs.Growing.{first_told}
pub use Rattle.record_words.proofs.HeadParts.HeadsByKind.{mask_within, position_within, row_within}
pub use Rattle.record_words.proofs.Nodes.{head_part, length-node_words, same_head}
unfoldable pub use Rattle.record_words.specs.Decoding.{entry_of}
pub use Rattle.record_words.specs.Entry.{HasEntryWord, entry_word}
pub use Rattle.record_words.specs.Kinds.{head_size, kind_in, kind_of, mask_index, position_index, rows_a_word, rows_from}
pub use Rattle.record_words.specs.Layout.{leaf_size}
pub use Rattle.record_words.specs.Leaf.{HasLeafWords, leaf_words, words_for}
pub use Rattle.record_words.specs.Node.{CanCloseAt, CanGrowAt, CanTakeLeaf, HasNodeWords, InNodesOf, SpellBuilt, SpellLeft, head_words, node_words}
pub use Rattle.record_words.specs.State.{state_word}
pub use Rattle.record_words.specs.declared.TheConstants.{HEAD_WORDS, NODE_FIELDS, SLOT_GROUP, VALUE_OFFSET}
pub use Rattle.record_words.specs.declared.layout.Layout.{Layout}
pub use Rattle.record_words.specs.declared.records.Rec.{Rec, Rec as Record}
pub use Rattle.record_words.specs.declared.records.Rec.TheVariants.{Leaf as a_leaf, Node as a_node}
pub use Rattle.rowex_core.proofs.Cores.Loading.{view}
pub use Rattle.rowex_core.proofs.Having.{owned_used, owns_none}
pub use Rattle.rowex_core.proofs.Reading.{entry_at_is, entry_of_word, node_is, place_is}
pub use Rattle.rowex_core.proofs.Sharing.Owning.{knows_all, pin_is, recalls}
pub use Rattle.rowex_core.specs.Cores.{Core, FitsIn, HasRecord, IsLawful, IsPastFilling, bare, heap_of, holder_of, word_count_of}
pub use Rattle.rowex_core.specs.Events.{IsOfEntry, after, claimed, loaded_tree, next_change, target_word, word_of}
pub use Rattle.rowex_core.specs.Having.{AreKept, IsUnlinked, IsUnlinkedBefore, LocksJust, OwnsJust}
pub use Rattle.rowex_core.specs.Knowing.{IsEvent, IsPinnedSince, Knows, Recalls, anchor_learned, blocking_pass_at, blocking_pass_of, claim_learned, failed_with, learned, maker_of, node_learned, state_learned, version_of, without_lock}
pub use Rattle.rowex_core.specs.Reading.{node_words_of}
unfoldable pub use Rattle.rowex_core.specs.Reading.{IsPacked, leaf_of}
pub use Rattle.rowex_core.specs.Sharing.{IsLocked, IsOwned, fate_of}
pub use Rattle.rowex_core.specs.Words.{lock_of, lock_tag, record_word, tag_of}
pub use Rattle.rowex_core.specs.declared.event.Act.{Act}
pub use Rattle.rowex_core.specs.declared.event.Act.TheVariants.{Advance, Claim, ClearPin, Fill, GiveBack, Load, LoadEpoch, LoadFixed, LoadPin, LoadRef, LoadState, Lock, Mark, Publish, Ready, Release, SetPin, Unlock}
pub use Rattle.rowex_core.specs.declared.event.Event.{Event}
pub use Rattle.rowex_core.specs.declared.event.Spot.{Spot}
pub use Rattle.rowex_core.specs.declared.event.Spot.TheVariants.{Root, Slot, Value}
pub use Rattle.rowex_core.specs.declared.event.Target.{Target}
pub use Rattle.rowex_core.specs.declared.event.Target.TheVariants.{Anchor, Node as NodeTarget}
pub use Rattle.rowex_core.specs.declared.known.Failed.{Failed}
pub use Rattle.rowex_core.specs.declared.known.FailedAct.TheVariants.{LoadState as a_load, Lock as a_lock}
pub use Rattle.rowex_core.specs.declared.known.Fresh.{Fresh}
pub use Rattle.rowex_core.specs.declared.known.Holding.TheVariants.{Held, Held as HeldBy, Ready as IsReady, Ready as ReadyBy}
pub use Rattle.rowex_core.specs.declared.known.Known.{Known}
pub use Rattle.rowex_core.specs.declared.known.Locked.{Locked}
pub use Rattle.rowex_core.specs.declared.known.Owned.{Owned}
pub use Rattle.rowex_reading.proofs.Counting.{looks_count, reads_count, runs_count, step_few}
pub use Rattle.rowex_reading.proofs.Possible.Placing.{is_entry, slot_later, slot_placed, slot_some, slot_spelled}
pub use Rattle.rowex_reading.proofs.Seen.{blank_stable, held_stable, later_reflexive, later_trans, missed_stable, placed_stable, read_stable, room_stable, rooted_stable, seen_past, seen_stable, seen_steady, seen_told, seen_within, shaped_stable, since_later, stands_in, sure_later}
pub use Rattle.rowex_reading.proofs.Seen.Later.{event_knows, event_later, event_possible}
pub use Rattle.rowex_reading.proofs.Seen.Led.{looked_at, looks_same, of_kind, reader_then, reads_later, reads_none, reads_same, reads_sees, same_since}
pub use Rattle.rowex_reading.proofs.Seen.Standing.{led_in_table}
pub use Rattle.rowex_reading.proofs.Ways.{named_at, named_end, way_later, way_place}
pub use Rattle.rowex_reading.specs.Lookups.{HasFound, HasSearched}
pub use Rattle.rowex_reading.specs.Possible.{IsPossible}
pub use Rattle.rowex_reading.specs.Reads.{IsBelowRoot, Looks, Reads, ReadsRoot, entries_in}
pub use Rattle.rowex_reading.specs.Seen.{HasPlace, IsLedTo, RootIs, Sure, seen, since}
pub use Rattle.rowex_reading.specs.Ways.{IsFoundAt, IsMismatch, IsWayNode, IsWayOf, RootWas, end_of, named, value_of}
pub use Rattle.rowex_reading.specs.declared.descent.Found.{Found}
pub use Rattle.rowex_reading.specs.declared.descent.Found.TheVariants.{Leaf, Leaf as FoundLeaf, Nothing}
pub use Rattle.rowex_records.proofs.Claims.{all_earlier, among_held, anothers_among, anothers_before, begins_low, claims_holds, held_misses, missed_among, missed_before, missed_earlier, missed_so, more_is_claimed, more_since, turned_to}
pub use Rattle.rowex_records.proofs.Claims.Making.{counted, looks_one}
pub use Rattle.rowex_records.specs.Claims.{AllMissed, AllMissedFrom, Claims, ClaimsOne, FindsFree, FindsNone, HasMissedSince, HoldsOneMore, IsAnothers, IsAnothersBut, IsAnothersTo, Misses, MissesNumber, MissesOne, begin_of, claiming, count_of, record_of, records_had, wrapped}
pub use Rattle.rowex_records.specs.Records.{GivesUpAll, HoldsJust, IsFilled, Readies, SetsAll, SetsSome, StoresWord, fill_with, owning, stored, stored_in}
pub use Rattle.rowex_table.proofs.Made.ActsAfter.{epoch_owns, locks_exact, mark_gives, marks_own, unlock_anchor_gives, unlock_gives, unlocks_node}
pub use Rattle.rowex_table.proofs.Made.ActsBefore.{entry_of_locked, fixed_of_locked, same_later, value_loaded}
pub use Rattle.rowex_table.proofs.Made.ActsLeave.{act_leaves}
pub use Rattle.rowex_table.proofs.Onward.{led_more, next_begins, others_begin}
pub use Rattle.rowex_table.proofs.Rights.{unlocks_anchor}
pub use Rattle.rowex_table.proofs.Rule.Located.{leaf_at}
pub use Rattle.rowex_table.proofs.Runs.{does_count, runs_append, runs_one, runs_same}
pub use Rattle.rowex_table.specs.Made.{HasReadied, HoldsMade, IsLater, Made, held_as, nodes_of, recs_of}
pub use Rattle.rowex_table.specs.Publishes.{HasPublished, Publishes}
pub use Rattle.rowex_table.specs.Rights.{IsClaimed, MayLock, OwnsAs}
pub use Rattle.rowex_table.specs.Rule.{HasSpot, MayStep, record_number}
pub use Rattle.rowex_table.specs.Runs.{Does, InTurn, Runs, Steps, silent}
pub use Rattle.rowex_table.specs.Seats.{IsSeatOf, SeatView, TableView}
pub use Rattle.rowex_table.specs.Stays.{KeepsRecall, LeavesFresh, LeavesFront, LeavesPin}
pub use Rattle.std.proofs.Common.{Bool, Bor, Err, IfErr, IfOk, IsSome, List, None, Ok, Option, Result, Some, [], add-one, add-zero, ap, append_assoc, ap₂, arith, drop, eqb, false, get_or, if◌then◌else◌, inl, inr, le_refl, le_trans, length, ltb, map, max, nat_eq, nat_lt, refl, replicate, reverse, rules, set, subst, suc, sym, take, take-add, true, zero, ℕ, ⊎_elim, ◌%◌, ◌&&◌, ◌*◌, ◌++◌, ◌+◌, ◌-◌, ◌/◌, ◌<◌, ◌^◌, ◌||◌, ◌∙◌, ◌∷◌, ◌≡◌, ◌≢◌, ◌≤◌, ◌⊎◌}
pub use Rattle.std.proofs.lemmas.Bool.{cases_lt, eq-eqb, eqb-false, eqb-true, false≢true, le-ltb, lt-ltb, ltb-false, ltb-true, ne_eqb}
pub use Rattle.std.proofs.lemmas.Grind.{reverse_onto}
pub use Rattle.std.proofs.lemmas.List.{append-nil, drop-append-le, drop-drop, drop-take, drop_all, drop_more, ext_get_or, get_or-map, get_or-reverse, get_or-set_other, get_or-set_same, get_or-take, get_or_default, get_or_past, length-append, length-drop, length-map, length-replicate, length-reverse, length-set, length-take-le, map-append, map_more, take-take, take_all, take_more}
pub use Rattle.std.proofs.lemmas.List.Elements.{All-append, All-cons, All-contains, All-drop, All-head, All-map, All-nil, All-push, All-tail, All-take, All-weaker, Contains-append_left, Contains-append_right, Contains-push}
pub use Rattle.std.proofs.lemmas.Option.{get_or_from_slice_get, slice_get-get_or, slice_get_within}
pub use Rattle.std.proofs.lemmas.Result.{IfErr-weaker}
pub use Rattle.std.specs.Prelude.{All, Contains, IfSome, IsTrue, MatchOption, slice_get, slice_range, ⊤, ◌↔◌}
pub use Rattle.tries.proofs.Content.Maps.{holds_value, value_holds}
pub use Rattle.tries.proofs.Place.{leads_spot, seek_spot, shape_tips, spot_below, spot_shape}
pub use Rattle.tries.proofs.Place.Spots.{collapsed_spot, grafted_spot, path_high, path_low, sibling_spot, without_spot}
pub use Rattle.tries.proofs.Tree.{built_within, has_first, rises, trie_within}
pub use Rattle.tries.proofs.Tree.Building.{bit_below, greatest-append, greatest_without, size-piece}
pub use Rattle.tries.specs.Affected.{FirstForkIsBefore, IsLowerSubtrie, IsLeafOrForkSubtrie, IsTipSubtrie, subtrie_affected, subtrie_forked, subtrie_grown}
pub use Rattle.tries.specs.Content.{Item, first, item}
pub use Rattle.tries.specs.Keys.{Key}
unfoldable pub use Rattle.tries.specs.Keys.{bit}
pub use Rattle.tries.specs.Place.{entry_at, fork_of, joined, shape, spot, subtrie_collapsed, subtrie_sibling, subtrie_without, with_subtrie}
pub use Rattle.tries.specs.Search.{seek}
pub use Rattle.tries.specs.Tree.{Fixed, Holds, IsTrie, Subtrie, Tree, Within, first_position, fork, here, leaf, node, node as node_tree, one_side, subtrie, zero_side}
pub use Rattle.version_laws.proofs.Scan.{first_shape, node_of as node_named, shaped}
pub use Rattle.version_laws.proofs.Ways.{placed_same, rooted_same, way_of_leaf}
pub use Rattle.version_laws.specs.Rise.{Side, body, entry}
pub use Rattle.version_laws.specs.Scan.{EntryStoodSince, HadShapeSince, IsBlank, IsPlaced, IsRead, IsRooted}
pub use Rattle.version_laws.specs.Writer.{Newcomer, added_change, removed_change, replaced_change}
pub use Rattle.versions.proofs.Core.{same_rec_refl}
pub use Rattle.versions.proofs.State.{steady}
pub use Rattle.versions.proofs.Trades.{all_of, apart_push, map_of, none_of, of_append, of_left, of_map, of_right}
pub use Rattle.versions.specs.Core.{Fate, Free, InTree, Marked, Unlinked, life_of, pin_version}
pub use Rattle.versions.specs.Heap.{Heap, LeafWords, NodeWords}
pub use Rattle.versions.specs.State.{FirstForkIsFrom, IsHeldSince, IsLived, IsTop, KeepsFixedWordsSince, Past, Spans, Stands, WasAbsentSince}
pub use Rattle.versions.specs.Steps.{IsLockable, same_rec}
pub use Rattle.versions.specs.Told.{content, items_of}
pub use Rattle.versions.specs.Trades.{AreApart, IsOneOf}
