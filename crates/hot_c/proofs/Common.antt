-- What the proofs of this crate cite of std and of the crates below.
pub use Rattle.finite_map.specs.Calls.{LegalCalls}
pub use Rattle.finite_map.specs.Maps.{Map, key_order}
pub use Rattle.finite_map.specs.Reverse.{IsLawfulReverseScan, falling_order}
pub use Rattle.finite_map.specs.Scans.{IsHeldBetween, IsHeldThroughout, IsLawfulScan, IsLawfulScanWith, ScanOrder, is_within}
pub use Rattle.finite_map.specs.declared.Call.{Call}
pub use Rattle.finite_map.specs.declared.Call.TheVariants.{Add, Exchange, Get, Insert, Remove, RemoveIf, Upsert}
pub use Rattle.finite_map.specs.declared.Change.{Change}
pub use Rattle.finite_map.specs.declared.Note.{Note}
pub use Rattle.finite_map.specs.declared.Reply.{Reply}
pub use Rattle.finite_map.specs.declared.Reply.TheVariants.{Absent, Differs, Exchanged, Exists, Inserted, New, Removed, Value, Was}
pub use Rattle.finite_map.specs.declared.Scan.{Scan}
pub use Rattle.hot_handles.specs.declared.load.open_load.OpenLoad.{OpenLoad}
pub use Rattle.hot_index.specs.Handles.{HandleView, Stays, handle_at}
pub use Rattle.hot_index.specs.Kept.{kept_stock}
pub use Rattle.hot_index.specs.Loads.{IsLoaderPass, IsPassOfLoad, pairs_noted}
pub use Rattle.hot_index_calls.specs.Answers.{AreValuesListed, HasFoundPair, IsListed, IsListedBy, IsNoted, IsRefused, IsRefusedFor, IsUnnoted, MayRefuse, range_from}
pub use Rattle.hot_index_calls.specs.Calls.{GetsOr, GetsOrCounts, HasCause, IsCountRead, IsListReadBy, IsOutcome, IsRangeRead, IsTriedAndCounted, IsValuesRead}
pub use Rattle.hot_index_calls.specs.Census.{HasCounted, loads_in}
pub use Rattle.hot_index_calls.specs.Many.{AreNoted, HasMadeGetManySteps, gets}
pub use Rattle.hot_index_calls.specs.Passes.{IsNewPass, Owns, PassView, pass_of}
pub use Rattle.hot_index_calls.specs.Refusals.{FollowsRefusal, as_tried, fault_in}
pub use Rattle.hot_index_calls.specs.Traces.{HasMadeChangeSteps, HasMadeGetSteps, HasMadeScanSteps, HasRead, reading, untold}
pub use Rattle.hot_index_calls.specs.declared.refusals.Refusal.{Refusal}
pub use Rattle.hot_index_calls.specs.declared.refusals.Refusal.TheVariants.{Busy as IsBusy, Full as IsFull, HeldBack}
pub use Rattle.index_laws.proofs.Joined.{handles_are_linearizable, seeing_is_done, silent_steps_end}
pub use Rattle.index_laws.specs.Joined.{HandleHasDone, HasEndedAs, HasGoneThrough, HasSeenLeader, answered, call_of, called, load_call, loader, looked_up as many_ended, new, notes_of_end, quiet, refused, shown, stamped, steps_of}
pub use Rattle.key_bits.specs.Key.{IsKey}
pub use Rattle.key_bits.specs.declared.TheConstants.{MAX_BYTES}
pub use Rattle.key_ranges.specs.Ranges.{HasPrefix, IsNextKey, IsPreviousKey, NoKeyAbove, last_with}
pub use Rattle.linearizability.specs.Configurations.{Happening, refuses, responds, shows, steps}
pub use Rattle.linearizability.specs.Histories.{notes_of_response}
pub use Rattle.packed_pairs.specs.Parts.{fitting, keys_in, packed_head}
pub use Rattle.record_words.specs.Layout.{HasStock}
pub use Rattle.record_words.specs.declared.layout.Layout.{Layout}
pub use Rattle.rowex_core.specs.declared.event.Act.{Act}
pub use Rattle.rowex_core.specs.declared.known.Known.{Known}
pub use Rattle.rowex_table.specs.Runs.{Does, Ends, Runs, silent}
pub use Rattle.rowex_table.specs.Seats.{SeatView, TableView}
pub use Rattle.rowex_writing.specs.declared.plan.Full.TheVariants.{Leaves, Nodes}
pub use Rattle.std.proofs.Common.{All, Any, Bool, Box, Contains, Err, IfErr, IfOk, IfSome, IsErrAnd, IsOk, IsSome, IsTrue, List, MatchOption, MatchResult, None, Ok, Option, Result, Some, Vec, [], ap, append-nil, append_assoc, arith, drop, false, get_or, inl, inr, le_refl, leb, length, length-append, map, nat_lt, not, refl, replicate, reverse, rules, slice_set, subst, suc, sym, take, true, zero, ℕ, ⊎_elim, ◌&&◌, ◌++◌, ◌+◌, ◌-◌, ◌<◌, ◌^◌, ◌||◌, ◌↔◌, ◌∙◌, ◌∷◌, ◌≡◌, ◌≢◌, ◌≤◌, ◌⊎◌}
pub use Rattle.std.proofs.lemmas.Bool.{cases_Bool, cases_eq, cases_lt, leb-false, leb-true}
pub use Rattle.std.proofs.lemmas.List.{drop-set-lt, get_or-take, get_or_default, length-drop, length-map, length-replicate, length-reverse, length-set, length-take-le, reverse-append, reverse-reverse}
pub use Rattle.std.proofs.lemmas.List.Elements.{All-cons, All-head, All-nil, All-rest, All-tail, All-take}
pub use Rattle.std.proofs.lemmas.List.Sorted.{IsPermutation-refl}
pub use Rattle.std.specs.Cmp.Lexicographic.{nat_list_cmp_total}
pub use Rattle.std.specs.Global.{Global}
pub use Rattle.std.specs.List.{slice_get}
pub use Rattle.std.specs.Option.{option_to_list}
pub use Rattle.std.specs.Ordering.{is_le, is_lt, ordering_reverse}
pub use Rattle.std.specs.Prelude.{IsPermutation}
pub use Rattle.std.specs.Vec.Iter.{into_iter_items, into_iter_len}
pub use Rattle.std.specs.declared.alloc.AllocError.{AllocError}
pub use Rattle.std.specs.declared.cmp.Ordering.{Ordering}
pub use Rattle.std.specs.declared.cmp.Ordering.TheVariants.{Equal, Greater, Less}
pub use Rattle.version_laws.specs.Directions.{IsLawfulBy, ScanLaw}
pub use Rattle.version_laws.specs.Scan.{Range}
