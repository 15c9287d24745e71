-- What the proofs of this crate cite of std and of the crates below.
pub use Rattle.bulk_load.specs.Views.{LoadView}
pub use Rattle.epochs.specs.Runs.{Pins}
pub use Rattle.finite_map.proofs.Calls.{change_of-quiet, legal_longer, place_after-within}
pub use Rattle.finite_map.proofs.Fronts.{begins_on, begins_on as front_on, changed_by-rising, others_begin}
pub use Rattle.finite_map.specs.Calls.{LegalCalls, RisesFrom, StandsIn, change_of, changes_of, is_change, own_changes, place_after}
pub use Rattle.finite_map.specs.Fronts.{BeginsWith, FitsKind, LegalFrom, LegalFront, OthersGoOn, changed, changed_by, map_of}
pub use Rattle.finite_map.specs.Maps.{IsRising, Map, key_of, key_order, step_if, step_where, value_at, with_value, without}
pub use Rattle.finite_map.specs.Scans.{IsHeldBetween, IsLawfulScan, is_within}
pub use Rattle.finite_map.specs.declared.Call.{Call}
pub use Rattle.finite_map.specs.declared.Call.TheVariants.{Add, Exchange, Get, Insert, Remove, RemoveIf, Upsert}
pub use Rattle.finite_map.specs.declared.Change.{Change}
pub use Rattle.finite_map.specs.declared.Kind.TheVariants.{Added, Removed, Replaced}
pub use Rattle.finite_map.specs.declared.Note.{Note}
pub use Rattle.finite_map.specs.declared.Reply.{Reply}
pub use Rattle.finite_map.specs.declared.Reply.TheVariants.{Exchanged, Inserted}
pub use Rattle.finite_map.specs.declared.Scan.{Scan}
pub use Rattle.hot_index_calls.proofs.Counts.{counted_seen, full_fault, get_few, may_lack, may_refuse, replied_cause, replied_outcome, replied_own, room_seen, stepped_told, tries_seen, unless_get, waited_lacks, waited_leafless}
pub use Rattle.hot_index_calls.proofs.Noting.{All-part, HasLooked, IsRightPlace, WasRight, fits_then, found_right, get_changes_nothing, get_noted, goes_on, legal_front, longer, looked, note_of, right_place, settles}
pub use Rattle.hot_index_calls.proofs.Traces.{has_got, has_got_many, has_walked, read_told}
pub use Rattle.hot_index_calls.specs.Answers.{AreValuesListed, GoesOn, HasFoundPair, HaveMet, IsCause, IsFoundBy, IsListedBy, IsNoted, IsOvertaken, IsRefused, IsRefusedFor, IsUnnoted, MayTake, WasFound, fault_of, got, range_from}
pub use Rattle.hot_index_calls.specs.Asked.{HasReplied, last_try}
pub use Rattle.hot_index_calls.specs.Calls.{AreTriesRefused, HasCause, IsCountReadWith, IsListRead, IsListReadBy, IsResultOfLast, IsOutcome, IsRangeRead, IsRangeReadWith, IsScanReadBy, IsTried, IsTriedAndCounted, IsValuesReadWith, MakesTries, no_part}
pub use Rattle.hot_index_calls.specs.Census.{HasCounted, loads_in}
pub use Rattle.hot_index_calls.specs.Many.{AreNoted, HasMadeGetManySteps, gets}
pub use Rattle.hot_index_calls.specs.Noting.{change_notes, place_of}
pub use Rattle.hot_index_calls.specs.Passes.{AreByPasses, IsNewPass, IsSettled, Owns, PassView, pass_of}
pub use Rattle.hot_index_calls.specs.Refusals.{HasNodeLeft, FollowsTry, IsCountedAfter, as_tried}
pub use Rattle.hot_index_calls.specs.Traces.{HasCollected, HasMadeGetSteps, HasRead, reading}
pub use Rattle.hot_index_calls.specs.declared.refusals.Refusal.{Refusal}
pub use Rattle.key_bits.specs.Key.{IsKey}
pub use Rattle.packed_pairs.specs.declared.direction.Direction.{Direction}
pub use Rattle.packed_pairs.specs.declared.direction.Direction.TheVariants.{Downwards, Upwards}
pub use Rattle.publish_laws.proofs.Lone.{lead_layout, lead_split, none_other, runs_spare}
pub use Rattle.publish_laws.specs.Lone.{HasSpare, IsLone, IsOut, KeepsSpare, LeavesTree}
pub use Rattle.record_words.specs.Layout.{HasStock, leaf_size}
pub use Rattle.record_words.specs.declared.layout.Layout.{Layout}
pub use Rattle.record_words.specs.declared.layout.LayoutFault.{LayoutFault}
pub use Rattle.record_words.specs.declared.records.Rec.{Rec}
pub use Rattle.record_words.specs.declared.records.Rec.TheVariants.{Leaf as a_leaf, Node as a_node}
pub use Rattle.rowex_core.proofs.Sharing.Owning.{knows_all, recalls}
pub use Rattle.rowex_core.specs.Cores.{Core, IsLawful, fields_in, heap_of, holder_of}
pub use Rattle.rowex_core.specs.Events.{IsLoad, after, loaded_root, loaded_tree, word_of}
pub use Rattle.rowex_core.specs.Knowing.{IsEvent, IsFact, IsStillLoaded, Knows, Recalls}
pub use Rattle.rowex_core.specs.Opening.{opening}
pub use Rattle.rowex_core.specs.Runs.{AreOthers, EventsLead}
pub use Rattle.rowex_core.specs.declared.event.Act.TheVariants.{ClearPin, LoadEpoch, LoadRef, SetPin}
pub use Rattle.rowex_core.specs.declared.event.Event.{Event}
pub use Rattle.rowex_core.specs.declared.known.Known.{Known}
pub use Rattle.rowex_reading.proofs.Seen.Led.{looked_at, looks_same}
pub use Rattle.rowex_reading.specs.Reads.{IsBelowRoot, Looks}
pub use Rattle.rowex_reading.specs.Seen.{Sure, seen, since}
pub use Rattle.rowex_scanning.specs.Scanning.{HasScanned, HasScannedPart, HasTaken, HasTakenPart, asked_range, limited}
pub use Rattle.rowex_scanning.specs.Tallies.{Tally, tally_of_number, tally_of_values}
pub use Rattle.rowex_table.specs.Rule.{HasFollowed, SeatsHaveMet, load_of, load_trace, loader_of, opening_of, with_front}
pub use Rattle.rowex_table.specs.Runs.{StepsWith, silent}
pub use Rattle.rowex_table.specs.Seats.{IsLoaderSeat, IsNewSeatOf, IsOneSeat, IsPassOf, IsSeatOf, IsShownAll, SeatView, StampView, TableView}
pub use Rattle.rowex_writing.proofs.Cited.{no_change_from_later, reads_plain, runs_begin}
pub use Rattle.rowex_writing.specs.declared.attempts.TryFault.{TryFault}
pub use Rattle.rowex_writing.specs.declared.attempts.TryFault.TheVariants.{Busy, FullLeaves, FullNodes}
pub use Rattle.rowex_writing.specs.declared.plan.Full.{Full}
pub use Rattle.rowex_writing.specs.locks.Locks.{HasMetTaken, NoChangeFrom}
pub use Rattle.std.proofs.Common.{Bool, Contains, Err, IsOk, List, None, Ok, Option, Result, Some, [], ap, append-nil, append_assoc, arith, cond, false, filter_map, fold, get_or, if◌then◌else◌, inl, inr, le_refl, le_trans, length, length-append, map, nat_eq, refl, rules, slice_index_or, subst, suc, sum_by, sym, take, true, zero, zero-le, ℕ, ⊎_elim, ◌%◌, ◌&&◌, ◌*◌, ◌++◌, ◌+◌, ◌-◌, ◌/◌, ◌<◌, ◌^◌, ◌↔◌, ◌∙◌, ◌∷◌, ◌≡◌, ◌≢◌, ◌≤◌, ◌⊎◌}
pub use Rattle.std.proofs.lemmas.Bool.{cases_lt, ne_eqb}
pub use Rattle.std.proofs.lemmas.Bool.Decides.{eqb_tells, nat_tests}
pub use Rattle.std.proofs.lemmas.List.{append_cancel_left, length-map, take_all}
pub use Rattle.std.proofs.lemmas.List.Elements.{All-append, All-cons, All-head, All-nil, All-rest, All-tail, All-weaker, filter_map-append}
pub use Rattle.std.proofs.lemmas.List.Sums.{sum_by-append, sum_by-cons}
pub use Rattle.std.proofs.lemmas.Option.{get_or_from_slice_get, slice_get-get_or, slice_get_within}
pub use Rattle.std.proofs.lemmas.Result.{err_from_is_err_and, on_err_weaker}
pub use Rattle.std.specs.List.{cons_option, slice_get}
pub use Rattle.std.specs.List.Sorted.{IsPermutation}
unfoldable pub use Rattle.std.specs.List.Sorted.{IsStrictlySortedBy}
pub use Rattle.std.specs.Option.{option_map, option_to_list, unwrap_or}
pub use Rattle.std.specs.Prelude.{All, IfErr, IfOk, IsSome, IsTrue, MatchResult, OnErr, nat_le}
pub use Rattle.std.specs.Vec.Iter.{into_iter_items}
pub use Rattle.tries.specs.Content.{Item, item, pairs}
pub use Rattle.tries.specs.Keys.{Key}
pub use Rattle.version_laws.specs.Directions.{IsAnswer, IsLawfulBy, ScanLaw}
pub use Rattle.version_laws.specs.Scan.{IsInRange, Pair, Range}
pub use Rattle.versions.specs.State.{IsHeldSince, IsLinked, Past}
pub use Rattle.versions.specs.Steps.{IsLockable, is_linked}
