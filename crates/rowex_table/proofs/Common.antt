-- What the proofs of this crate cite of std and of the crates below.
pub use Rattle.atomic_table.proofs.Lists.{at_last, at_longer, at_set, set_else}
pub use Rattle.atomic_table.specs.Table.{Allows, Joins, Me, Splits, State, Step, opening as first_state}
pub use Rattle.compound_node.specs.declared.entries.Entry.{Entry}
pub use Rattle.finite_map.specs.Fronts.{BeginsWith, Fits, OthersGoOn, map_of}
pub use Rattle.finite_map.specs.declared.Change.{Change}
pub use Rattle.finite_map.specs.declared.Note.{Note}
pub use Rattle.record_words.specs.Layout.{address, word_count}
pub use Rattle.record_words.specs.State.{state_word}
pub use Rattle.record_words.specs.declared.layout.Layout.{Layout}
pub use Rattle.record_words.specs.declared.layout.Location.{Location}
pub use Rattle.record_words.specs.declared.records.Rec.{Rec}
pub use Rattle.record_words.specs.declared.records.Rec.TheVariants.{Leaf as a_leaf, Node as a_node}
pub use Rattle.rowex_core.proofs.Cores.{stays_lawful}
pub use Rattle.rowex_core.proofs.Having.{mark_owns, node_used, other_rec, owned_after_publish, owned_used, unlock_locks}
pub use Rattle.rowex_core.proofs.Knowing.Keeping.{keeps, seen_by}
pub use Rattle.rowex_core.proofs.Sharing.Owning.{knows_all, round_is}
pub use Rattle.rowex_core.proofs.Statements.Promises.{opening_is_lawful, publish_is_a_step}
pub use Rattle.rowex_core.specs.Cores.{Core, FitsIn, HasRecord, HasWord, IsLawful}
pub use Rattle.rowex_core.specs.Events.{IsAtomic, IsLegalPublish, IsLoad, IsOffset, Legal, after, location_of, next_change, next_tree, state_of, target_word, writes}
pub use Rattle.rowex_core.specs.Knowing.{IsEvent, IsFact, IsStillLoaded, IsUntouched, IsViewOf, Knows, Recalls, anchor_learned, blocking_pass_at, claim_learned, facts_with, failed_with, learned, learned_by, node_learned, version_of, with_holding, without_record}
pub use Rattle.rowex_core.specs.Opening.{opening, opening_words}
pub use Rattle.rowex_core.specs.Runs.{EventsLead}
pub use Rattle.rowex_core.specs.Sharing.{IsLocked, IsOwned, fate_of}
pub use Rattle.rowex_core.specs.Words.{Shows, lock_tag, record_word, state_at, tag_of, word_at}
pub use Rattle.rowex_core.specs.declared.event.Act.{Act}
pub use Rattle.rowex_core.specs.declared.event.Act.TheVariants.{Advance, Claim, ClearPin, Fill, GiveBack, Load, LoadEpoch, LoadFixed, LoadPin, LoadRef, LoadState, Lock, Mark, Publish, Ready, Release, SetPin, Unlock}
pub use Rattle.rowex_core.specs.declared.event.Event.{Event}
pub use Rattle.rowex_core.specs.declared.event.Spot.TheVariants.{Root, Slot, Value}
pub use Rattle.rowex_core.specs.declared.event.Target.TheVariants.{Anchor, Node as NodeTarget}
pub use Rattle.rowex_core.specs.declared.known.Holding.{Holding}
pub use Rattle.rowex_core.specs.declared.known.Holding.TheVariants.{Held, Ready as IsReady}
pub use Rattle.rowex_core.specs.declared.known.Known.{Known}
pub use Rattle.rowex_core.specs.declared.known.Locked.{Locked}
pub use Rattle.rowex_core.specs.declared.known.Owned.{Owned}
pub use Rattle.std.proofs.Common.{Bool, IsSome, List, None, Option, [], add-one, ap, append-nil, append_assoc, ap₂, arith, eqb, false, get_or, if◌then◌else◌, inl, inr, le_refl, le_trans, length, length-append, map, nat_eq, refl, rules, set, subst, suc, sym, true, zero, ℕ, ⊎_elim, ◌++◌, ◌+◌, ◌<◌, ◌^◌, ◌∙◌, ◌∷◌, ◌≡◌, ◌≢◌, ◌≤◌, ◌⊎◌}
pub use Rattle.std.proofs.lemmas.Bool.{cases_lt, eq-eqb, eqb-true, ne_eqb}
pub use Rattle.std.proofs.lemmas.Bool.Decides.{eqb_tells}
pub use Rattle.std.proofs.lemmas.List.{get_or-map, length-map, map-append, set-get_or}
pub use Rattle.std.proofs.lemmas.List.Elements.{All-append, All-cons, All-contains, All-from_recursion, All-head, All-nil, All-tail, All-weaker}
pub use Rattle.std.proofs.lemmas.Result.{IfOk-weaker}
pub use Rattle.std.specs.Prelude.{All, Contains, Err, IfOk, Ok, Result, Some}
pub use Rattle.versions.proofs.Trades.{all_of, map_of as has_mapped, of_map}
pub use Rattle.versions.specs.Core.{Fate, Free, Held as HeldBy, InTree, Marked, Ready as ReadyBy, Unlinked as UnlinkedBy, life_of}
pub use Rattle.versions.specs.State.{IsLived, Past}
pub use Rattle.versions.specs.Trades.{AreApart, HasTraded, IsOneOf}
