-- What the proofs of this crate cite of std and of the crates below.
pub use Rattle.compound_node.specs.Nodes.{HeadView, IsLawfulNode, height_of, leaves, node_of}
pub use Rattle.compound_node.specs.declared.entries.Entry.{Entry}
pub use Rattle.compound_node.specs.declared.entries.Entry.TheVariants.{Leaf, Leaf as LeafEntry, Node}
pub use Rattle.insert_cases.proofs.Ways.{some_at, some_injective}
pub use Rattle.insert_cases.specs.declared.choice.PathNode.{PathNode}
pub use Rattle.key_bits.specs.Bits.{IsFirstDifference, bit_of}
pub use Rattle.key_bits.specs.Key.{IsKey}
pub use Rattle.node_tries.proofs.Piece.{length-places, size_pos}
pub use Rattle.node_tries.specs.Piece.{Fork, Place, size}
pub use Rattle.packed_pairs.specs.declared.direction.Direction.{Direction}
pub use Rattle.packed_pairs.specs.declared.direction.Direction.TheVariants.{Downwards, Upwards}
unfoldable pub use Rattle.record_words.specs.Leaf.{key_word}
pub use Rattle.record_words.specs.declared.TheConstants.{HEAD_WORDS, LEAF_FIELDS}
pub use Rattle.record_words.specs.declared.layout.Layout.{Layout}
pub use Rattle.record_words.specs.declared.records.Rec.TheVariants.{Leaf as a_leaf, Node as a_node}
pub use Rattle.rowex_core.proofs.Sharing.Owning.{recalls}
pub use Rattle.rowex_core.specs.Cores.{Core, HasRecord, HasWord, IsLawful}
pub use Rattle.rowex_core.specs.Knowing.{IsEvent, IsPinnedSince, Recalls}
pub use Rattle.rowex_core.specs.declared.known.Known.{Known}
pub use Rattle.rowex_reading.proofs.Seen.{IsStable, later_reflexive, placed_stable, read_stable, recalls_before, room_stable, seen_grown, seen_stable, seen_steady, seen_told, since_later, sure_later}
pub use Rattle.rowex_reading.proofs.Seen.Led.{HasShape, looks_first, looks_on, looks_same, placed_led, reader_then, reads_later, reads_none, reads_trans, rooted_led, same_since, shape_place}
pub use Rattle.rowex_reading.proofs.Touching.{reads_touching, reads_untouched, touched_none, touched_on, touches_last}
pub use Rattle.rowex_reading.proofs.Ways.{named_at, named_end, way_later, way_place}
pub use Rattle.rowex_reading.specs.Possible.{IsPossible}
pub use Rattle.rowex_reading.specs.Reads.{IsReader, Reads, leaf_loads}
pub use Rattle.rowex_reading.specs.Seen.{HasMorePlaces, HasPlace, IsAtRoot, IsLedTo, Sure, seen, shape_of, since}
pub use Rattle.rowex_reading.specs.Ways.{IsMismatch, IsWayNode, IsWayOf, RootWas, named, step_at}
pub use Rattle.rowex_reading.specs.declared.descent.Found.TheVariants.{Leaf as FoundLeaf, Nothing}
pub use Rattle.rowex_table.specs.Made.{IsLater}
pub use Rattle.rowex_table.specs.Rule.{IsLeafRecordAt, IsNodeRecordAt, IsStartOf, record_number}
pub use Rattle.rowex_table.specs.Seats.{SeatView, TableView}
pub use Rattle.std.proofs.Common.{Bool, List, None, Option, Some, [], ap, arith, below_more, false, get_or, if◌then◌else◌, inl, inr, le_refl, length, length-append, lit<, map, nat_eq, nat_lt, not, refl, rules, set, subst, suc, sym, take, take-suc, true, zero, ℕ, ⊎_elim, ◌%◌, ◌*◌, ◌++◌, ◌+◌, ◌-◌, ◌/◌, ◌<◌, ◌^◌, ◌∙◌, ◌∷◌, ◌≡◌, ◌≢◌, ◌≤◌, ◌⊎◌}
pub use Rattle.std.proofs.lemmas.Bool.{cases_Bool, cases_lt, eq-eqb, false≢true, le-ltb, ne_eqb}
pub use Rattle.std.proofs.lemmas.List.{append-nil, append_assoc, get_or-set_other, get_or_past, length-replicate, length-set, length-take-le, map-append}
pub use Rattle.std.proofs.lemmas.Option.{get_or_from_slice_get, slice_get-get_or}
pub use Rattle.std.proofs.lemmas.Result.{IfOk-weaker, err_from_is_err_and, on_err_weaker}
pub use Rattle.std.specs.Cmp.Lexicographic.{nat_list_cmp_total, slice_cmp}
pub use Rattle.std.specs.Ordering.{is_lt, nat_cmp, ordering_then}
pub use Rattle.std.specs.Prelude.{IfSome, IsSome, IsTrue, is_some, option_to_list, slice_get, ◌↔◌}
pub use Rattle.std.specs.declared.cmp.Ordering.{Ordering}
pub use Rattle.std.specs.declared.cmp.Ordering.TheVariants.{Equal, Greater, Less}
pub use Rattle.tries.proofs.Place.{spot_below}
pub use Rattle.tries.specs.Keys.{AgreeBelow, IsAtMost, IsBefore, Key}
unfoldable pub use Rattle.tries.specs.Keys.{bit}
pub use Rattle.version_laws.proofs.Directions.{before, behind, come_before, may_stand_earlier, scan_ended, scan_filled, scan_passed, scan_popped, scan_pushed, scan_skipped, scan_taken, stack_place, stack_shape}
pub use Rattle.version_laws.proofs.Directions.Starts.{AreAt, IsWayEarlier, affected_from, at_beyond, at_on_way, beyond_at_place, beyond_behind, beyond_further, beyond_grown, beyond_in_child, fit_sole, same_past, scan_started, sides, sides_beyond, stack_at, start_fits, start_place}
pub use Rattle.version_laws.proofs.Scan.{before_trans, leaf_may_stand, leaf_of, may_stand_at_child_place, may_stand_in_order, near_may_stand, placed_stands, shaped_several}
pub use Rattle.version_laws.specs.Directions.{IsAnswer, IsEarlier, IsLawfulBy, IsNoLater, IsPastKey, IsScanBy, IsToCome, WasPassed, first_gap, first_key, gap_after, gap_before, gap_behind, last_key, place_ahead, to_come}
pub use Rattle.version_laws.specs.Scan.{EntryStoodSince, Frame as Stage, HadShapeSince, IsBlank, IsInRange, IsPlaced, IsRead, IsRooted, IsStack, MayStandAt, Pair, Range, in_order_taken}
pub use Rattle.versions.specs.State.{KeepsFixedWordsSince, Past, Stands}
