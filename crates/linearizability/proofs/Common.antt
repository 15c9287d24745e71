-- What the proofs of this crate cite of std and of the crates below.
pub use Rattle.finite_map.proofs.Calls.{change_of-change, change_of-quiet, legal_at_first, legal_change, legal_longer, pass-change_of, place_after-within, same_value}
pub use Rattle.finite_map.proofs.Fronts.{begins_itself, begins_on, changed_by-other, legal_front_part, legal_front_push, map_of-push, map_of-rising, nothing_before}
pub use Rattle.finite_map.proofs.Maps.{same_from_at, value_at-without_same}
pub use Rattle.finite_map.specs.Calls.{LegalCalls, RisesFrom, StandsIn, change_of, changes_of, effect_of, is_change, own_changes, place_after}
pub use Rattle.finite_map.specs.Fronts.{BeginsWith, Fits, FitsKind, LegalFrom, LegalFront, OthersGoOn, changed, changed_by, map_of}
pub use Rattle.finite_map.specs.Maps.{IsRising, Map, key_of, key_order, reply_of, step_if, step_where, value_at, without}
pub use Rattle.finite_map.specs.Weaves.{AllLegal, Event, LegalHistory, calls_of, changing_at, made_by, notes_of, quiet_at, weave, weave_from}
pub use Rattle.finite_map.specs.declared.Call.{Call}
pub use Rattle.finite_map.specs.declared.Call.TheVariants.{Add, Exchange, Get, Insert, Remove, RemoveIf, Upsert}
pub use Rattle.finite_map.specs.declared.Change.{Change}
pub use Rattle.finite_map.specs.declared.Kind.{Kind}
pub use Rattle.finite_map.specs.declared.Kind.TheVariants.{Added, Removed, Replaced}
pub use Rattle.finite_map.specs.declared.Note.{Note}
pub use Rattle.finite_map.specs.declared.Reply.{Reply}
pub use Rattle.plain_index.specs.Times.{FitsPlaces, IsInTime, noted}
pub use Rattle.record_words.specs.declared.layout.Layout.{Layout}
pub use Rattle.rowex_core.proofs.Knowing.Keeping.{keeps, seen_by}
pub use Rattle.rowex_core.specs.Cores.{Core, IsLawful}
pub use Rattle.rowex_core.specs.Events.{IsAtomic, Legal, after, after as next_core, loaded_tree}
pub use Rattle.rowex_core.specs.Knowing.{Knows, anchor_learned, claim_learned, learned}
pub use Rattle.rowex_core.specs.Statements.{Appends, call_of_kind}
pub use Rattle.rowex_core.specs.declared.event.Act.{Act}
pub use Rattle.rowex_core.specs.declared.event.Act.TheVariants.{Advance, Claim, ClearPin, Fill, GiveBack, Load, LoadEpoch, LoadFixed, LoadPin, LoadRef, LoadState, Lock, Mark, Publish, Ready, Release, SetPin, Unlock}
pub use Rattle.rowex_core.specs.declared.known.Known.{Known}
pub use Rattle.std.proofs.Common.{Bool, List, None, Option, Some, [], ap, append-nil, append_assoc, ap₂, arith, cond, drop, eqb, false, fold, get_or, if◌then◌else◌, inl, inr, le_refl, length, length-append, map, nat_eq, nat_lt, refl, subst, suc, sym, take, true, zero, ℕ, ⊎_elim, ◌&&◌, ◌++◌, ◌+◌, ◌-◌, ◌<◌, ◌∙◌, ◌∷◌, ◌≡◌, ◌≢◌, ◌≤◌, ◌⊎◌}
pub use Rattle.std.proofs.Math.Seq.{drop-append_seam, take-append_seam}
pub use Rattle.std.proofs.lemmas.Bool.{and_parts, cases_Bool, cases_eq, cases_lt, cond_both, eq-eqb, eqb-true, false≢true, le-ltb, leb-true, lt-leb, lt-ltb, ne_eqb}
pub use Rattle.std.proofs.lemmas.List.{take-append-drop, take-append-le}
pub use Rattle.std.proofs.lemmas.List.Elements.{All-append, All-cons, All-contains, All-head, All-map, All-nil, All-push, All-tail, All-weaker, filter-append, filter_map-append}
pub use Rattle.std.proofs.lemmas.List.Sorted.{All-permutation, IsPermutation-append_comm, IsPermutation-append_left, IsPermutation-append_right, IsPermutation-refl, IsPermutation-sym, IsPermutation-trans, length_permutation, sum_by-IsPermutation}
pub use Rattle.std.specs.List.{cons_option, filter, slice_get}
pub use Rattle.std.specs.Prelude.{All, AllPairs, IsPermutation, IsSome, option_map}
