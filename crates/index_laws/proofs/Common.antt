-- What the proofs of this crate cite of std and of the crates below.
pub use Rattle.atomic_table.specs.Seated.{TableId}
pub use Rattle.epochs.specs.Rounds.{IsRound, LoadsPin, Visits, advance_steps}
pub use Rattle.finite_map.proofs.Calls.{legal_at_first, place_after-within}
pub use Rattle.finite_map.proofs.Fronts.{begins_itself, others_begin}
pub use Rattle.finite_map.proofs.Weaves.{weave-legal}
pub use Rattle.finite_map.specs.Calls.{LegalCalls, StandsIn, changes_of, own_changes}
pub use Rattle.finite_map.specs.Fronts.{BeginsWith, map_of}
pub use Rattle.finite_map.specs.Weaves.{AllLegal, LegalHistory, answered, calls_of, weave}
pub use Rattle.finite_map.specs.declared.Call.{Call}
pub use Rattle.finite_map.specs.declared.Call.TheVariants.{Add, Exchange, Get, Insert, Remove, RemoveIf}
pub use Rattle.finite_map.specs.declared.Change.{Change}
pub use Rattle.finite_map.specs.declared.Note.{Note}
pub use Rattle.finite_map.specs.declared.Reply.{Reply}
pub use Rattle.finite_map.specs.declared.Reply.TheVariants.{Absent, Inserted, Value}
pub use Rattle.hot_index.proofs.KeyCounts.Counted.{counts_add_up, last_of}
pub use Rattle.hot_index_calls.specs.Answers.{IsCause, IsNoted, MayRefuse}
pub use Rattle.hot_index_calls.specs.Census.{FoundTags, HasCounted, OneForEach, counts_in, is_free, is_held, is_live, is_obsolete, loads_in, loads_of}
pub use Rattle.hot_index_calls.specs.Passes.{AreByPasses, IsSettled, PassView, pass_of}
pub use Rattle.hot_index_calls.specs.Traces.{HasCollected, HasMadeChangeSteps, untold}
pub use Rattle.linearizability.proofs.Configurations.{runs_stay_sound}
pub use Rattle.linearizability.proofs.Configurations.Completing.{linearizable, none_some}
pub use Rattle.linearizability.specs.Configurations.{Configuration, Continues, Happening, IsCallTurn, IsConfigurationStep, IsNewIndex, IsNotedBetween, IsResponse, IsShowing, IsSoundConfiguration, IsWholeRun, Pending, invokes, refuses, responds, shows, steps}
pub use Rattle.plain_index.proofs.Orders.{woven-in_order, woven-in_order_two}
pub use Rattle.publish_laws.proofs.Lone.Timely.{IsMarkedBy, run_timely}
pub use Rattle.record_words.specs.Layout.{IsInTable, address, leaf_size}
pub use Rattle.record_words.specs.State.{state_word}
pub use Rattle.record_words.specs.declared.TheConstants.{EPOCHS}
pub use Rattle.record_words.specs.declared.layout.Layout.{Layout}
pub use Rattle.record_words.specs.declared.records.Rec.{Rec}
pub use Rattle.record_words.specs.declared.records.Rec.TheVariants.{Leaf as a_leaf, Node as a_node}
pub use Rattle.record_words.specs.declared.state.Tag.{Tag}
pub use Rattle.record_words.specs.declared.state.Tag.TheVariants.{Free as FreeTag, Held as HeldTag, Live, Locked, Obsolete}
pub use Rattle.rowex_core.proofs.Cores.{stays_lawful}
pub use Rattle.rowex_core.proofs.Cores.Publishing.{linked_now, linked_where, listed_once, once}
pub use Rattle.rowex_core.proofs.Knowing.{learns}
pub use Rattle.rowex_core.proofs.Runs.{runs_keep, runs_stay_lawful}
pub use Rattle.rowex_core.proofs.Statements.Promises.{entries_in_reach, in_reach, opening_is_lawful}
pub use Rattle.rowex_core.specs.Cores.{Core, HasRecord, IsLawful, holder_of}
pub use Rattle.rowex_core.specs.Events.{IsAtomic, IsLoad, Legal, after, given_back, loaded_tree, location_of, next_change, writes}
pub use Rattle.rowex_core.specs.Knowing.{Knows, learned, records_in, records_of}
pub use Rattle.rowex_core.specs.Opening.{opening}
pub use Rattle.rowex_core.specs.Runs.{AreOthers, EventsLead}
pub use Rattle.rowex_core.specs.Sharing.{is_in_tree}
pub use Rattle.rowex_core.specs.Words.{Shows, lock_of, state_at, tag_of, word_at}
pub use Rattle.rowex_core.specs.declared.event.Act.{Act}
pub use Rattle.rowex_core.specs.declared.event.Act.TheVariants.{Advance, Claim, ClearPin, Fill, GiveBack, LoadEpoch, LoadPin, LoadRef, LoadState, Lock, Publish, SetPin, Unlock}
pub use Rattle.rowex_core.specs.declared.event.Event.{Event}
pub use Rattle.rowex_core.specs.declared.event.Spot.TheVariants.{Root}
pub use Rattle.rowex_core.specs.declared.known.Fresh.{Fresh}
pub use Rattle.rowex_core.specs.declared.known.Known.{Known}
pub use Rattle.rowex_core.specs.declared.known.View.TheVariants.{Pass, Witness}
pub use Rattle.rowex_table.proofs.Onward.{begins_on, begins_on as run_begins_on, led_more, next_begins, of_one_run, others_more, others_none, others_on}
pub use Rattle.rowex_table.proofs.Rule.{apart_set, each_set, found_atomic, found_place, found_writes, learned_pass, renoted, still_true, true_after}
pub use Rattle.rowex_table.proofs.Runs.{runs_same}
pub use Rattle.rowex_table.proofs.Runs.Linking.{lead_rest, own_acts-append, own_acts-others, steps_are_in_one_run}
pub use Rattle.rowex_table.proofs.Seats.{new_knows}
pub use Rattle.rowex_table.specs.Rule.{IsTrueOf, found_by, load_of, loader_of, opening_of, with_front}
pub use Rattle.rowex_table.specs.Runs.{Ends, InTurn, Runs, StepsWith, root_load, silent}
pub use Rattle.rowex_table.specs.Seats.{IsLoaderSeat, IsNewSeatOf, IsShownAll, SeatView, TableView}
pub use Rattle.rowex_table.specs.Traces.{IsTableRun, OthersStepOn, RunBeginsWith, own_acts}
pub use Rattle.std.proofs.Common.{Bool, List, None, Option, Some, [], add-one, ap, append-nil, append_assoc, ap₂, arith, cond, count_by, false, get_or, if◌then◌else◌, inl, inr, le_refl, le_trans, length, length-append, map, nat_eq, nat_le, nat_lt, refl, rules, set, subst, suc, sum_by, sym, take_all, true, zero, ℕ, ⊎_elim, ◌*◌, ◌++◌, ◌+◌, ◌-◌, ◌<◌, ◌^◌, ◌∙◌, ◌∷◌, ◌≡◌, ◌≢◌, ◌≤◌, ◌⊎◌}
pub use Rattle.std.proofs.lemmas.Bool.{cases_eq, cases_lt, eq-eqb, false≢true, le-leb, le-ltb, lt-leb, lt-ltb, ne_eqb}
pub use Rattle.std.proofs.lemmas.List.{append_cancel_left}
pub use Rattle.std.proofs.lemmas.List.Elements.{All-append, All-cons, All-from_recursion, All-head, All-map, All-nil, All-tail, All-weaker}
pub use Rattle.std.proofs.lemmas.List.Sums.{length-filter, sum_by-append, sum_by-cons}
pub use Rattle.std.specs.List.{range_with_len}
pub use Rattle.std.specs.Prelude.{All, Result}
pub use Rattle.tries.specs.Content.{Item, item, items, pairs}
pub use Rattle.tries.specs.Tree.{Tree, fork, leaf, node}
pub use Rattle.versions.proofs.Core.{linked_cases, same_rec_refl}
pub use Rattle.versions.specs.Core.{Fate, Free, Held, InTree, Marked, Ready, Shared, Unlinked, pin_version}
pub use Rattle.versions.specs.State.{IsLinked, IsReach, Links}
pub use Rattle.versions.specs.Steps.{lowered, same_rec, with_epoch, with_fate}
pub use Rattle.versions.specs.Told.{added_notes, content, items_of}
pub use Rattle.versions.specs.Trades.{IsOneOf}
pub use Rattle.versions.specs.declared.Round.{Round}
