-- What the proofs of this crate cite of std and of the crates below.
pub use Rattle.epochs.specs.Rounds.{IsRound, IsSmallRound, LoadsPin, VisitEach, Visits, advance_steps, has_given}
pub use Rattle.epochs.specs.Runs.{Pins, collecting}
pub use Rattle.finite_map.proofs.Calls.{legal_change, legal_longer, legal_quiet}
pub use Rattle.finite_map.proofs.Fronts.{begins_on, legal_front_part, others_begin}
pub use Rattle.finite_map.specs.Calls.{LegalCalls, change_of, changes_of, effect_of, is_change, own_changes}
pub use Rattle.finite_map.specs.Fronts.{BeginsWith, LegalFront, OthersGoOn, map_of}
pub use Rattle.finite_map.specs.Maps.{Map, key_of, reply_of, step_if, step_where, value_at}
pub use Rattle.finite_map.specs.declared.Call.{Call}
pub use Rattle.finite_map.specs.declared.Call.TheVariants.{Add, Exchange, Get, Insert, Remove, RemoveIf, Upsert}
pub use Rattle.finite_map.specs.declared.Change.{Change}
pub use Rattle.finite_map.specs.declared.Kind.TheVariants.{Added}
pub use Rattle.finite_map.specs.declared.Note.{Note}
pub use Rattle.finite_map.specs.declared.Reply.{Reply}
pub use Rattle.finite_map.specs.declared.Reply.TheVariants.{Absent, Differs, Exchanged, Exists, Inserted, New, Removed, Value, Was}
pub use Rattle.key_bits.specs.declared.TheConstants.{MAX_BYTES}
pub use Rattle.publish_laws.proofs.Lone.{IsBack, lead_layout, lead_same, one_of, runs_back, runs_free, runs_spare, step_back, step_knows, step_lawful, unused_free}
pub use Rattle.publish_laws.specs.Lone.{HasRoom, HasSpare, IsLone, IsOut, IsUnused, KeepsSpare, LeavesTree}
pub use Rattle.record_words.specs.Layout.{leaf_size, word_count}
pub use Rattle.record_words.specs.State.{HasStateWord, state_word}
pub use Rattle.record_words.specs.declared.TheConstants.{EPOCHS, LARGE_WORDS, LEAF_WORDS, MEDIUM_WORDS, SHORT_WORDS, WIDE_WORDS, WORD_BYTES}
pub use Rattle.record_words.specs.declared.layout.Layout.{Layout}
pub use Rattle.record_words.specs.declared.records.Rec.{Rec}
pub use Rattle.record_words.specs.declared.records.Rec.TheVariants.{Leaf as a_leaf, Node, Node as a_node}
pub use Rattle.record_words.specs.declared.state.Tag.{Tag}
pub use Rattle.record_words.specs.declared.state.Tag.TheVariants.{Free as FreeTag, Held as HeldTag, Live, Locked, Obsolete}
pub use Rattle.rowex_core.proofs.Sharing.Owning.{knows_all}
pub use Rattle.rowex_core.specs.Cores.{Core, HasRecord, IsLawful, holder_of}
pub use Rattle.rowex_core.specs.Events.{IsAtomic, Legal, after, anchored, claimed, given_back, marked, next_change, next_tree, state_of, target_word, word_of}
pub use Rattle.rowex_core.specs.Knowing.{IsEvent, IsPinnedSince, Knows, Recalls, anchor_learned, blocking_pass_of, claim_learned, failed_with, version_of}
pub use Rattle.rowex_core.specs.Opening.{opening}
pub use Rattle.rowex_core.specs.Sharing.{Share, fate_of}
pub use Rattle.rowex_core.specs.Words.{lock_of, state_at, tag_of}
pub use Rattle.rowex_core.specs.declared.event.Act.{Act}
pub use Rattle.rowex_core.specs.declared.event.Act.TheVariants.{Advance, Claim, ClearPin, Fill, GiveBack, Load, LoadEpoch, LoadFixed, LoadPin, LoadRef, LoadState, Lock, Mark, Publish, Ready as MakeReady, Release, SetPin, Unlock}
pub use Rattle.rowex_core.specs.declared.event.Event.{Event}
pub use Rattle.rowex_core.specs.declared.event.Spot.TheVariants.{Root, Slot}
pub use Rattle.rowex_core.specs.declared.event.Target.{Target}
pub use Rattle.rowex_core.specs.declared.known.Failed.{Failed}
pub use Rattle.rowex_core.specs.declared.known.Fresh.{Fresh}
pub use Rattle.rowex_core.specs.declared.known.Holding.TheVariants.{Held as HeldBy, Ready as ReadyBy, Unlinked as UnlinkedBy}
pub use Rattle.rowex_core.specs.declared.known.Known.{Known}
pub use Rattle.rowex_reading.proofs.Seen.Later.{event_recalls}
pub use Rattle.rowex_reading.specs.Lookups.{HasFound, HasSearched, HaveSearched, search_touches}
pub use Rattle.rowex_reading.specs.Reads.{Looks, entries_in}
pub use Rattle.rowex_reading.specs.Seen.{Sure, seen, since}
pub use Rattle.rowex_records.specs.Claims.{HasMissed, HasMissedSince, IsAnothers, TellsState}
pub use Rattle.rowex_table.proofs.Made.ActsLeave.{act_fresh, act_leaves}
pub use Rattle.rowex_table.proofs.Onward.{begins_on as run_begins_on, led_more, next_begins}
pub use Rattle.rowex_table.proofs.Runs.{does_none, ends_told, runs_append, runs_one, runs_same, runs_told}
pub use Rattle.rowex_table.specs.Runs.{Does, Ends, InTurn, IsTold, Runs, SeesAllOfRun, Steps, StepsWith, entry_touches, events_of, silent}
pub use Rattle.rowex_table.specs.Seats.{IsPassOf, MakesNoAside, SeatView, TableView}
pub use Rattle.rowex_table.specs.Stays.{LeavesFailed, LeavesRound}
pub use Rattle.rowex_table.specs.Traces.{RunBeginsWith}
pub use Rattle.rowex_writing.proofs.Cited.{act_front, lacks_so, met_between, no_change_from_later, of_attempt_pin, run_failed, runs_begin, runs_split, step_lone}
pub use Rattle.rowex_writing.specs.attempts.Attempts.{AreAttemptSteps, HasAnswered, HasAttempted, HasRefused, IsChangeOf, IsOfSearch, LacksNoLeaf}
pub use Rattle.rowex_writing.specs.build.Changes.{HasChanged, LacksLeaves, LacksNodes}
pub use Rattle.rowex_writing.specs.build.Walks.{nodes_among}
pub use Rattle.rowex_writing.specs.declared.attempts.TryFault.{TryFault}
pub use Rattle.rowex_writing.specs.declared.attempts.TryFault.TheVariants.{Busy, FullLeaves, FullNodes}
pub use Rattle.rowex_writing.specs.declared.plan.Full.{Full}
pub use Rattle.rowex_writing.specs.declared.plan.Full.TheVariants.{Leaves, Leaves as OfLeaves, Nodes, Nodes as OfNodes}
pub use Rattle.rowex_writing.specs.locks.Locks.{HasMadeNoChange, HasMetLock, HasMetTaken, HasTried, IsOfAttempt, NoChangeFrom, targets_of}
pub use Rattle.rowex_writing.specs.locks.Others.{HasMetOther, IsHindered}
pub use Rattle.rowex_writing.specs.plan.Planned.{HasLoadedRoot}
pub use Rattle.std.proofs.Common.{Bool, Err, IsSome, List, None, Ok, Option, Result, Some, [], ap, ap₂, arith, false, get_or, if◌then◌else◌, inl, inr, le_refl, le_trans, length, length-append, nat_eq, nat_lt, refl, rules, subst, suc, sym, take, true, zero, ℕ, ⊎_elim, ◌*◌, ◌++◌, ◌+◌, ◌-◌, ◌<◌, ◌∙◌, ◌∷◌, ◌≡◌, ◌≢◌, ◌≤◌, ◌⊎◌}
pub use Rattle.std.proofs.lemmas.Bool.{cases_Bool, cases_lt, eq-eqb, eqb-true, false≢true, lt-ltb}
pub use Rattle.std.proofs.lemmas.List.{append-nil, get_or_default, take-append-le, take_all}
pub use Rattle.std.proofs.lemmas.List.Elements.{All-append, All-cons, All-contains, All-head, All-nil, All-tail, All-weaker}
pub use Rattle.std.proofs.lemmas.List.Sums.{sum_by-append}
pub use Rattle.std.proofs.lemmas.Option.{slice_get-get_or}
pub use Rattle.std.specs.Prelude.{All, Contains, IfErr, IfOk, MatchResult, OnErr, count_by, is_some, slice_get}
pub use Rattle.tries.specs.Keys.{Key}
pub use Rattle.versions.proofs.Core.{same_rec_refl, same_rec_true}
pub use Rattle.versions.specs.Core.{Fate, Free, Held, InTree, Marked, Ready, Shared, Unlinked}
pub use Rattle.versions.specs.Steps.{is_linked, lowered, next_fate, same_rec, unlocked, with_epoch, with_fate, with_lock}
pub use Rattle.versions.specs.Trades.{IsOneOf}
pub use Rattle.versions.specs.declared.Pin.{Pin}
