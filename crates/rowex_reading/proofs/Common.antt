-- What the proofs of this crate cite of std and of the crates below.
pub use Rattle.compound_node.proofs.Lawful.{same_count, with_leaves}
pub use Rattle.compound_node.specs.Nodes.{HeadView, InEachNode, IsLawfulNode, NodeView, head_of, height_of, leaves, node_of, piece}
pub use Rattle.compound_node.specs.declared.entries.Entry.{Entry}
pub use Rattle.compound_node.specs.declared.entries.Entry.TheVariants.{Leaf, Leaf as LeafEntry, Node}
pub use Rattle.finite_map.specs.Fronts.{BeginsWith, map_of}
pub use Rattle.finite_map.specs.declared.Change.{Change}
pub use Rattle.finite_map.specs.declared.Note.{Note}
pub use Rattle.insert_cases.proofs.Ways.{agrees, differs, some_injective}
pub use Rattle.insert_cases.specs.declared.choice.PathNode.{PathNode}
pub use Rattle.key_bits.specs.Bits.{IsFirstDifference, bit_of}
pub use Rattle.key_bits.specs.Key.{HoldsKey, IsKey}
pub use Rattle.key_bits.specs.declared.TheConstants.{MAX_BYTES}
pub use Rattle.node_tries.specs.Piece.{Fork, Place, leads_to, places, size, uses}
pub use Rattle.partial_keys.specs.Rows.{dense_of, row_of}
pub use Rattle.record_words.proofs.HeadParts.{parts, told}
pub use Rattle.record_words.proofs.Leaves.{IsLeafOf, key_of_bytes, key_part, leaf_words_parts, places_of_leaf, same_leaf, same_pair}
pub use Rattle.record_words.proofs.Locations.{size_fits}
pub use Rattle.record_words.proofs.Nodes.{length-head_words, same_head}
pub use Rattle.record_words.proofs.Unused.{first_long, first_rest, first_size, first_words, leaf_word_past, zero_in, zero_word}
pub use Rattle.record_words.proofs.UpToKey.{up_to_key_before, up_to_key_past}
pub use Rattle.record_words.specs.Decoding.{entry_of}
pub use Rattle.record_words.specs.Entry.{HasEntryWord, entry_word}
pub use Rattle.record_words.specs.Kinds.{head_size, kind_in, kind_of, mask_index}
pub use Rattle.record_words.specs.Layout.{leaf_size}
pub use Rattle.record_words.specs.Leaf.{HasLeafWords, IsBytesOf, key_word, leaf_words, up_to_key, words_for, words_of_key}
pub use Rattle.record_words.specs.Node.{HasHeadWords, entry_words, head_words}
pub use Rattle.record_words.specs.Reading.{IsSpelledBy, IsSpelling}
pub use Rattle.record_words.specs.declared.TheConstants.{FIRST_ROWS, HEAD_WORDS, LEAF_FIELDS, ROW_WORDS, VALUE_OFFSET}
pub use Rattle.record_words.specs.declared.kind.HeadKind.{HeadKind}
pub use Rattle.record_words.specs.declared.kind.HeadKind.TheVariants.{Middle, Narrow, Wide}
pub use Rattle.record_words.specs.declared.layout.Layout.{Layout}
pub use Rattle.record_words.specs.declared.records.Rec.{Rec}
pub use Rattle.record_words.specs.declared.records.Rec.TheVariants.{Leaf as a_leaf, Node as a_node}
pub use Rattle.rowex_core.proofs.Cores.Loading.{view}
pub use Rattle.rowex_core.proofs.Reading.{entry_of_word, head_is, node_is}
pub use Rattle.rowex_core.proofs.Sharing.Owning.{pin_is, recalls}
pub use Rattle.rowex_core.specs.Cores.{Core, FitsIn, HasRecord, IsLawful, IsSized, IsPastFilling, heap_of}
pub use Rattle.rowex_core.specs.Events.{IsFixedOffset, after}
pub use Rattle.rowex_core.specs.Knowing.{HoldsIfStood, IsEvent, IsFact, IsPinnedSince, Knows, Recalls, StoodAs, StoodBetween, facts_with, learned, version_of}
pub use Rattle.rowex_core.specs.Reading.{HasWordAt, entry_in, head_entry, head_value, root_of}
unfoldable pub use Rattle.rowex_core.specs.Reading.{IsPacked}
pub use Rattle.rowex_core.specs.Words.{record_word}
pub use Rattle.rowex_core.specs.declared.event.Act.{Act}
pub use Rattle.rowex_core.specs.declared.event.Act.TheVariants.{Advance, Claim, ClearPin, Fill, GiveBack, Load, LoadEpoch, LoadFixed, LoadPin, LoadRef, LoadState, Lock, Mark, Publish, Ready, Release, SetPin, Unlock}
pub use Rattle.rowex_core.specs.declared.event.Event.{Event}
pub use Rattle.rowex_core.specs.declared.event.Spot.TheVariants.{Root, Slot, Value}
pub use Rattle.rowex_core.specs.declared.known.Fact.{Fact}
pub use Rattle.rowex_core.specs.declared.known.Fact.TheVariants.{Fixed, Placed, Rooted, Valued}
pub use Rattle.rowex_core.specs.declared.known.Fresh.{Fresh}
pub use Rattle.rowex_core.specs.declared.known.Known.{Known}
pub use Rattle.rowex_core.specs.declared.known.Loaded.{Loaded}
pub use Rattle.rowex_table.proofs.Rule.Located.{leaf_at, node_at}
pub use Rattle.rowex_table.specs.Made.{IsLater}
pub use Rattle.rowex_table.specs.Rule.{HasSpot, record_number}
pub use Rattle.rowex_table.specs.Runs.{Ends, MayTouch, Runs, Steps, StepsWith, entry_touches, most_touches, silent}
pub use Rattle.rowex_table.specs.Seats.{HasTouched, IsSeatOf, MakesNoAside, SeatView, TableView, touched, touched_to}
pub use Rattle.std.proofs.Common.{Bool, IsNone, IsSome, List, None, Option, Some, [], ap, ap₂, arith, cond, drop, eqb, false, get_or, get_or-take, if◌then◌else◌, inl, inr, le_refl, le_trans, length, length-append, lit<, lit≤, map, refl, replicate, rules, set, subst, suc, sym, take, true, zero, zero-add, ℕ, ⊎_elim, ◌*◌, ◌++◌, ◌+◌, ◌-◌, ◌/◌, ◌<◌, ◌^◌, ◌↔◌, ◌∙◌, ◌∷◌, ◌≡◌, ◌≢◌, ◌≤◌, ◌⊎◌}
pub use Rattle.std.proofs.Math.Nat.{suc-mul}
pub use Rattle.std.proofs.lemmas.Bool.{cases_eq, cases_lt, lt-ltb, ne_eqb}
pub use Rattle.std.proofs.lemmas.List.{append-nil, drop_at, ext_get_or, get_or-append-add, get_or-append_right, get_or-replicate, get_or-set_other, get_or-set_same, get_or_append_left, get_or_past, length-replicate, length-set, length-take-le, set-get_or, take-append-drop, take-append-le, take-take, take_all, take_at}
pub use Rattle.std.proofs.lemmas.List.Elements.{All-append, All-cons, All-head, All-nil, All-tail}
pub use Rattle.std.proofs.lemmas.List.Sums.{sum_by-append, sum_by-cons, sum_by-set}
pub use Rattle.std.proofs.lemmas.Option.{slice_get-get_or, slice_get_read, slice_get_within}
pub use Rattle.std.specs.Prelude.{All, IfSome, slice_get}
pub use Rattle.tries.proofs.Place.{leads_spot, shape_tips, spot_below}
pub use Rattle.tries.proofs.Tree.{built_within, follows_if_has, has?}
pub use Rattle.tries.proofs.Tree.Building.{size-piece}
pub use Rattle.tries.specs.Keys.{Key}
pub use Rattle.tries.specs.Place.{entry_at, shape, spot}
pub use Rattle.tries.specs.Tree.{Has, IsBuilt, Subtrie, Tree, first_position, fork, here, leaf, node, subtrie}
pub use Rattle.version_laws.proofs.Scan.{leaf_of, led_placed, node_of as node_there, read_held, record_leaf, record_node, shaped}
pub use Rattle.version_laws.proofs.Scan.Loads.{loads_shape, placed_seen, rooted_seen, subtrie_at}
pub use Rattle.version_laws.proofs.Statements.Search.{leaf_now, same_record_now}
pub use Rattle.version_laws.specs.Scan.{EntryStoodSince, HadShapeSince, IsBlank, IsPlaced, IsRead, IsRooted, Stood}
pub use Rattle.versions.proofs.Core.Growth.{stands_grown}
pub use Rattle.versions.proofs.State.{reach_later, record_of_subtrie, steady}
pub use Rattle.versions.specs.Core.{Fate, Free, Held, InTree, Marked, Unlinked, pin_version}
pub use Rattle.versions.specs.Heap.{Heap, IsCopied, LeafWords, NodeWords}
pub use Rattle.versions.specs.State.{IsHeldSince, IsLed, IsReach, IsRecord, IsSameRecord, IsTop, KeepsFixedWordsSince, Past, Stands, WasAbsentSince, rec_of}
pub use Rattle.versions.specs.Told.{TellChanges, content}
pub use Rattle.versions.specs.declared.Pin.{Pin}
