-- What the proofs of this crate cite of std and of the crates below.
pub use Rattle.record_words.specs.Layout.{leaf_size, leaf_start}
pub use Rattle.record_words.specs.State.{state_word}
pub use Rattle.record_words.specs.declared.TheConstants.{LEAF_CLASSES, RECORD_KINDS}
pub use Rattle.record_words.specs.declared.layout.Layout.{Layout}
pub use Rattle.record_words.specs.declared.records.Rec.{Rec}
pub use Rattle.record_words.specs.declared.records.Rec.TheVariants.{Leaf as a_leaf, Node as a_node}
pub use Rattle.record_words.specs.declared.state.Tag.TheVariants.{Free as FreeTag, Obsolete}
pub use Rattle.rowex_core.specs.Cores.{Core, IsLawful, holder_of}
pub use Rattle.rowex_core.specs.Events.{after, given_back, word_of}
pub use Rattle.rowex_core.specs.Knowing.{IsEvent, failed_with, learned_by}
pub use Rattle.rowex_core.specs.Words.{lock_of, lock_tag, pin_word, tag_of}
pub use Rattle.rowex_core.specs.declared.event.Act.{Act}
pub use Rattle.rowex_core.specs.declared.event.Act.TheVariants.{Advance, ClearPin, GiveBack, LoadEpoch, LoadPin, LoadState, SetPin}
pub use Rattle.rowex_core.specs.declared.event.Event.{Event}
pub use Rattle.rowex_core.specs.declared.known.Known.{Known}
pub use Rattle.rowex_table.proofs.Runs.{does_none, in_turn_more}
pub use Rattle.rowex_table.specs.Runs.{Does, InTurn, Steps, silent}
pub use Rattle.rowex_table.specs.Seats.{IsSeatOf, SeatView, TableView}
pub use Rattle.std.proofs.Common.{Bool, List, None, Option, Some, [], ap, arith, eq-eqb, false, if◌then◌else◌, inl, inr, length, length-append, min, nat_eq, nat_lt, refl, rules, subst, suc, sym, true, zero, ℕ, ⊎_elim, ◌++◌, ◌+◌, ◌-◌, ◌<◌, ◌^◌, ◌∙◌, ◌∷◌, ◌≡◌, ◌≢◌, ◌≤◌, ◌⊎◌}
pub use Rattle.std.proofs.lemmas.Bool.{cases_lt, le-ltb, lt-ltb}
pub use Rattle.std.specs.Prelude.{count_by}
pub use Rattle.versions.specs.Core.{Fate, Free, Held, InTree, Marked, Ready as ReadyBy, Unlinked, has_seen}
pub use Rattle.versions.specs.declared.Pin.{Pin}
pub use Rattle.versions.specs.declared.Round.{Round}
