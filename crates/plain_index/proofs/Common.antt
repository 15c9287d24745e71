-- What the proofs of this crate cite of std and of the crates below.
pub use Rattle.finite_map.proofs.Calls.{change_of-change, place_after-within}
pub use Rattle.finite_map.proofs.Fronts.{begins_itself, changed_by-other, legal_front_push, map_of-push, map_of-rising}
pub use Rattle.finite_map.proofs.Maps.{at_itself, same_from_at, value_at-with_value_same, value_at-without_same}
pub use Rattle.finite_map.proofs.Scans.{at_found}
pub use Rattle.finite_map.proofs.Weaves.{none_below, weave-legal_listed}
pub use Rattle.finite_map.specs.Calls.{LegalCalls, RisesFrom, StandsIn, is_change, place_after}
pub use Rattle.finite_map.specs.Fronts.{Fits, FitsKind, LegalFrom, LegalFront, changed, changed_by, map_of}
pub use Rattle.finite_map.specs.Maps.{IsRising, Map, key_of, key_order, map_after, map_after_all, replies_of, reply_of, step_where, value_at}
pub use Rattle.finite_map.specs.Scans.{IsHeldBetween, IsLawfulScan, IsPastLast, IsScanOf, IsUpToLast, is_within, range_of}
pub use Rattle.finite_map.specs.Weaves.{AllLegal, Event, answered, calls_of, changing_at, made_by, notes_of, quiet_at, weave, weave_from}
pub use Rattle.finite_map.specs.declared.Change.{Change}
pub use Rattle.finite_map.specs.declared.Kind.{Kind}
pub use Rattle.finite_map.specs.declared.Kind.TheVariants.{Added, Removed, Replaced}
pub use Rattle.finite_map.specs.declared.Note.{Note}
pub use Rattle.finite_map.specs.declared.Scan.{Scan}
pub use Rattle.std.proofs.Common.{Bool, List, None, Option, Some, [], ap, append_assoc, arith, cond, drop, false, filter, get_or, inl, inr, length, length-append, min, nat_eq, not, refl, rules, subst, suc, sym, take, true, zero, ℕ, ⊎_elim, ◌&&◌, ◌++◌, ◌+◌, ◌<◌, ◌∙◌, ◌∷◌, ◌≡◌, ◌≢◌, ◌≤◌, ◌⊎◌}
pub use Rattle.std.proofs.Math.Seq.{drop-append_seam, take-append_seam, take-length, take-nil}
pub use Rattle.std.proofs.lemmas.Bool.{and_parts, cases_Bool, cases_eq, cases_lt, cond-false, cond-true, eq-eqb, eqb-true, ne_eqb}
pub use Rattle.std.proofs.lemmas.Cmp.{eq_by_cmp_equiv}
pub use Rattle.std.proofs.lemmas.List.{get_or-map, get_or-take, length-map, length-take, length-take-le, take-map, take_all, take_more}
pub use Rattle.std.proofs.lemmas.List.Elements.{All-append, All-cons, All-contains_itself, All-filter, All-from_recursion, All-head, All-nil, All-tail, All-take, All-weaker, Contains-append_right, filter-append, filter_passes, recursion_from_All}
pub use Rattle.std.proofs.lemmas.Option.{slice_get-get_or, slice_get_within}
pub use Rattle.std.proofs.lemmas.Result.{err_from_is_err_and}
pub use Rattle.std.specs.BTreeMap.{is_at}
pub use Rattle.std.specs.Cmp.Lexicographic.{nat_list_cmp_total}
pub use Rattle.std.specs.List.{All, Contains, fold}
pub use Rattle.std.specs.Ordering.{is_gt, is_le, is_lt, ordering_reverse}
pub use Rattle.std.specs.Prelude.{AllPairs, IsPermutation, IsSome, IsTrue}
pub use Rattle.std.specs.declared.cmp.Ordering.TheVariants.{Equal, Greater, Less}
