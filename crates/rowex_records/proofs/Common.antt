-- What the proofs of this crate cite of std and of the crates below.
pub use Rattle.record_words.proofs.Leaves.{leaf_words_parts}
pub use Rattle.record_words.specs.Leaf.{HasLeafWords, key_word, leaf_words, up_to_key, words_for}
pub use Rattle.record_words.specs.declared.layout.Layout.{Layout}
pub use Rattle.record_words.specs.declared.records.Rec.{Rec}
pub use Rattle.record_words.specs.declared.records.Rec.TheVariants.{Leaf, Leaf as a_leaf, Node as a_node}
pub use Rattle.rowex_core.proofs.Sharing.Owning.{knows_all}
pub use Rattle.rowex_core.specs.Cores.{Core, HasRecord, IsLawful, holder_of, word_count_of}
pub use Rattle.rowex_core.specs.Events.{word_of}
pub use Rattle.rowex_core.specs.Knowing.{IsEvent, Knows, claim_learned, failed_with, learned_by, with_filled_word, without_record}
unfoldable pub use Rattle.rowex_core.specs.Reading.{IsPacked}
pub use Rattle.rowex_core.specs.Sharing.{IsLocked, IsOwned, fate_of}
pub use Rattle.rowex_core.specs.declared.event.Act.{Act}
pub use Rattle.rowex_core.specs.declared.event.Act.TheVariants.{Claim, Fill, LoadState, Ready, Release}
pub use Rattle.rowex_core.specs.declared.event.Event.{Event}
pub use Rattle.rowex_core.specs.declared.known.FailedAct.TheVariants.{Claim as a_claim, LoadState as a_load, Lock as a_lock}
pub use Rattle.rowex_core.specs.declared.known.Holding.{Holding}
pub use Rattle.rowex_core.specs.declared.known.Holding.TheVariants.{Held, Ready as IsReady, Unlinked as IsUnlinked}
pub use Rattle.rowex_core.specs.declared.known.Known.{Known}
pub use Rattle.rowex_core.specs.declared.known.Owned.{Owned}
pub use Rattle.rowex_table.proofs.Rights.{fills, mapped}
pub use Rattle.rowex_table.proofs.Runs.{does_count, in_turn_more}
pub use Rattle.rowex_table.specs.Rights.{IsClaimed, OwnsAs}
pub use Rattle.rowex_table.specs.Runs.{Does, InTurn, Runs, Steps, silent}
pub use Rattle.rowex_table.specs.Seats.{SeatView, TableView}
pub use Rattle.std.proofs.Common.{Bool, List, Option, [], add-one, add-zero, ap, arith, drop, false, get_or, get_or-take, if◌then◌else◌, inl, inr, length, length-append, map, min, nat_eq, nat_lt, refl, rules, set, subst, suc, sym, take, true, zero, ℕ, ◌++◌, ◌+◌, ◌-◌, ◌<◌, ◌∙◌, ◌∷◌, ◌≡◌, ◌≢◌, ◌≤◌}
pub use Rattle.std.proofs.lemmas.Bool.{eqb-false, eqb-true, le-ltb, lt-ltb, ltb-false, ltb-true}
pub use Rattle.std.proofs.lemmas.List.{drop_all, length-set, map-append, take_all, take_more, take_more_set}
pub use Rattle.std.proofs.lemmas.List.Elements.{All-cons, All-contains, All-head, All-nil, All-tail, All-weaker}
pub use Rattle.std.specs.Prelude.{All, Contains, IfNone, IfSome, MatchOption, None, Some, not}
pub use Rattle.versions.proofs.Core.{same_rec_refl, same_rec_true}
pub use Rattle.versions.specs.Core.{Fate, Free, Held as HeldBy, InTree, Marked, Ready as ReadyBy, Unlinked}
pub use Rattle.versions.specs.Steps.{same_rec}
pub use Rattle.versions.specs.Trades.{IsOneOf}
